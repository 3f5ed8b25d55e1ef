-- What a run knows as items are answered.
use Rattle.std.proofs.Common.{◌≡◌, ℕ, ◌+◌, List, [], ◌∷◌, ◌++◌, length, Option, Some, None, Result, Ok, Err, refl, ap, sym, ◌∙◌, subst, arith, append-nil, length-append}
use Rattle.px_reader.specs.declared.doc.Doc.{Doc}
use Rattle.px_feed.specs.declared.ending.Taken.{Taken}
use Rattle.px_feed.specs.declared.ending.Taken.TheVariants as taken
use Rattle.px_feed.specs.declared.feed.Items.{Items}
use Rattle.px_feed.specs.declared.item.Item.{Item as Given}
use Rattle.px_feed.specs.declared.line.OutLine.{OutLine}
use Rattle.px_feed.specs.declared.status.Status.{Status}
use Rattle.px_feed.specs.Items.{Item}
use Rattle.px_feed.specs.Outputs.{Ask, AllAsk, lines_for}
use Rattle.px_feed.specs.Taking.{HasTaken}
use Rattle.px_feed.specs.Taking as taking
use Rattle.px_feed.proofs.Replies.{asks-joined, lines-joined}
use Rattle.px_lines.specs.declared.outgoing.Outgoing.{Outgoing}
use Rattle.px_lines.specs.Standing.{Streams, streams}
use Rattle.px_lines.specs.Waiting.{HasSaid, IsCut, SaysOn}
use Rattle.px_lines.proofs.FeedEnds.{cut_ended}
use Rattle.px_gather.specs.declared.gathering.Gathering.{Gathering}
use Rattle.px_gather.specs.Asking.{AreShown, AreAnswers}
use Rattle.px_gather.specs.Waiting.{Waits, AnswersAll, Answers, AllBegin, HasGiven, IsCutOff, documents_of}
use Rattle.px_gather.proofs.Taking.{taken_begin}

-- these items are answered behind those that were given
module _ (given items : List Item) (asks more : List Ask) (lines : List OutLine) (asked : AllAsk given asks) (are : AreAnswers asks items lines more) where
  all_asked : AllAsk (given ++ items) (asks ++ more)
  all_asked = asks-joined given items asks more asked are.asked

  -- the lines of all that are answered then
  all_lines : lines_for [] asks ++ lines ≡ lines_for [] (asks ++ more)
  all_lines = ap (λ (ls : List OutLine). lines_for [] asks ++ ls) are.lines_are ∙ sym (lines-joined [] asks more)

  -- they are said
  all_said : (outgoing : Outgoing) (held after : Option (List ℕ)) → HasSaid outgoing held after (lines_for [] asks ++ lines) →
      HasSaid outgoing held after (lines_for [] (asks ++ more))
  all_said outgoing held after said =
      let P : List OutLine → Type 0 = λ ls. HasSaid outgoing held after ls in subst P all_lines said

  -- or the run is cut short there
  all_cut : (status : Status) (first now : Streams) → AllBegin first.left (given ++ items) → IsCut status first.held now.held (lines_for [] asks ++ lines) →
      IsCutOff status first now
  all_cut status first now begin cut =
      let P : List OutLine → Type 0 = λ ls. IsCut status first.held now.held ls in
      let begun = begin (given ++ items) [] (asks ++ more) (sym (append-nil (given ++ items))) all_asked in
      (cut.0, cut_ended status first now (lines_for [] (asks ++ more)) begun (subst P all_lines cut))

-- all that wait are answered
all_answered : (found : Option Taken) (old new : Gathering) (asks more : List Ask) (lines : List OutLine) (first : Streams) (left held after : Option (List ℕ))
    (faults least : ℕ) → (w : Waits found old asks first (streams left held faults) least) → AreAnswers asks w.shown lines more → documents_of new ≡ [] →
    new.items ≡ old.items → HasSaid new.outgoing first.held after (lines_for [] asks ++ lines) →
    Waits found new (asks ++ more) first (streams left after faults) least
all_answered found old new asks more lines first left held after faults least w are none same_items said =
    let all = sym (append-nil (w.given ++ w.shown)) in
    let P : List Item → Type 0 = λ given. HasGiven found old.items left w.bytes given in
    let Q : List Item → Type 0 = λ given. AllBegin first.left given in
    let R : List Doc → Type 0 = λ docs. AreShown docs [] in
    let S : Items → Type 0 = λ items. HasGiven found items left w.bytes ((w.given ++ w.shown) ++ []) in
    record {
      bytes = w.bytes;
      read = w.read;
      given = w.given ++ w.shown;
      shown = [];
      are_shown = subst R (sym none) tt;
      gave = subst S (sym same_items) (subst P all w.gave);
      all_begin = subst Q all w.all_begin;
      asked = all_asked w.given w.shown asks more lines w.asked are;
      said = all_said w.given w.shown asks more lines w.asked are new.outgoing first.held after said;
      many = omega (arith, w.many, length-append w.given w.shown);
      counted = w.counted;
      failed = w.failed;
    }

-- their lines are said, or the run is cut short there
pub says_all : (lines : List OutLine) (old new : Gathering) (held after : Option (List ℕ)) → documents_of new ≡ [] → new.items ≡ old.items →
    SaysOn (Ok tt) old.outgoing new.outgoing held after lines → AnswersAll lines (Ok tt) old new held after
says_all lines old new held after none same_items says = λ found asks more first left faults least w are.
    all_answered found old new asks more lines first left held after faults least w are none same_items (says first.held (lines_for [] asks) w.said).0

pub says_all_cut : (lines : List OutLine) (status : Status) (old new : Gathering) (held after : Option (List ℕ)) →
    SaysOn (Err status) old.outgoing new.outgoing held after lines → AnswersAll lines (Err status) old new held after
says_all_cut lines status old new held after says = λ found asks more first left faults least w are.
    all_cut w.given w.shown asks more lines w.asked are status first (streams left after faults) w.all_begin (says first.held (lines_for [] asks) w.said).1

-- no document waits
none_shown : (shown : List Item) → AreShown [] shown → shown ≡ []
none_shown [] are = refl
none_shown (item ∷ shown) are = absurd are

no_shown : (docs : List Doc) (shown : List Item) → docs ≡ [] → AreShown docs shown → shown ≡ []
no_shown docs shown none are = let P : List Doc → Type 0 = λ all. AreShown all shown in none_shown shown (subst P none are)

-- so all items that were given are answered
all_given : (docs : List Doc) (given shown : List Item) → docs ≡ [] → AreShown docs shown → given ++ shown ≡ given
all_given docs given shown none are = ap (λ (rest : List Item). given ++ rest) (no_shown docs shown none are) ∙ append-nil given

-- the item that was found is the last of those that were taken
taken_last : (item : Given) (run : Gathering) (asks : List Ask) (first now : Streams) (least : ℕ) → documents_of run ≡ [] →
    (w : Waits (Some (taken.Item item)) run asks first now least) → HasTaken run.items now.left w.bytes (w.given ++ w.gave.0 ∷ [])
taken_last item run asks first now least none w =
    let P : List Item → Type 0 = λ given. HasTaken run.items now.left w.bytes (given ++ w.gave.0 ∷ []) in
    subst P (all_given (documents_of run) w.given w.shown none w.are_shown) w.gave.2

-- it is answered
item_answered : (item : Given) (old new : Gathering) (asks : List Ask) (ask : Ask) (line : OutLine) (first : Streams) (left held after : Option (List ℕ))
    (faults least : ℕ) → documents_of old ≡ [] → (w : Waits (Some (taken.Item item)) old asks first (streams left held faults) least) →
    AreAnswers asks (w.gave.0 ∷ []) (line ∷ []) (ask ∷ []) → documents_of new ≡ [] → new.items ≡ old.items →
    HasSaid new.outgoing first.held after (lines_for [] asks ++ line ∷ []) → Waits None new (asks ++ ask ∷ []) first (streams left after faults) (least + 1)
item_answered item old new asks ask line first left held after faults least none w are none_after same_items said =
    let last = w.gave.0 ∷ [] in
    let given = w.given ++ last in
    let few = ap length (no_shown (documents_of old) w.shown none w.are_shown) in
    let P : List Doc → Type 0 = λ docs. AreShown docs [] in
    let Q : Items → Type 0 = λ items. HasTaken items left w.bytes given in
    let R : List Item → Type 0 = λ all. HasTaken new.items left w.bytes all in
    let taken = subst R (sym (append-nil given)) (subst Q (sym same_items) (taken_last item old asks first (streams left held faults) least none w)) in
    record {
      bytes = w.bytes;
      read = w.read;
      given = given;
      shown = [];
      are_shown = subst P (sym none_after) tt;
      gave = taken;
      all_begin = taken_begin new.items first.left left w.bytes (given ++ []) taken w.read;
      asked = all_asked w.given last asks (ask ∷ []) (line ∷ []) w.asked are;
      said = all_said w.given last asks (ask ∷ []) (line ∷ []) w.asked are new.outgoing first.held after said;
      many = omega (arith, w.many, few, length-append w.given last);
      counted = w.counted;
      failed = λ e. absurd (cc);
    }

-- its line is said, or the run is cut short there
pub says_item : (line : OutLine) (result : Result (Unit {0}) Status) (old new : Gathering) (held after : Option (List ℕ)) →
    documents_of new ≡ documents_of old → new.items ≡ old.items → SaysOn result old.outgoing new.outgoing held after (line ∷ []) →
    Answers line result old new held after
says_item line (Ok u) old new held after same same_items says = λ item asks ask first left faults least none w are.
    item_answered item old new asks ask line first left held after faults least none w are (same ∙ none) same_items (says first.held (lines_for [] asks) w.said).0
says_item line (Err status) old new held after same same_items says = λ item asks ask first left faults least none w are.
    let last = w.gave.0 ∷ [] in
    let taken = taken_last item old asks first (streams left held faults) least none w in
    all_cut w.given last asks (ask ∷ []) (line ∷ []) w.asked are status first (streams left after faults)
    (taken_begin old.items first.left left w.bytes (w.given ++ last) taken w.read) (says first.held (lines_for [] asks) w.said).1

-- how the feed has ended, where all items are answered
pub found_behind : (found : Taken) (run : Gathering) (asks : List Ask) (first now : Streams) (least : ℕ) → documents_of run ≡ [] →
    (w : Waits (Some found) run asks first now least) → taking.Answers found run.items now.left w.bytes w.given
found_behind found run asks first now least none w =
    let P : List Item → Type 0 = λ given. taking.Answers found run.items now.left w.bytes given in
    subst P (all_given (documents_of run) w.given w.shown none w.are_shown) w.gave
