-- What a run knows as it takes items from its feed.
use Rattle.std.proofs.Common.{◌≡◌, ℕ, ◌+◌, ◌≤◌, ◌⊎◌, List, [], ◌∷◌, ◌++◌, length, Option, Some, None, refl, sym, subst, inl, inr, arith, append-nil, append_assoc, length-append}
use Rattle.px_text.specs.Nodes.{Root}
use Rattle.px_io.specs.Faults.{Rose}
use Rattle.px_io.specs.Flows.{TakesFrom}
use Rattle.px_io.proofs.Counts.{rose_later}
use Rattle.px_io.proofs.Flowing.{takes_nothing, takes_both}
use Rattle.px_reader.specs.declared.doc.Doc.{Doc}
use Rattle.px_feed.specs.declared.ending.Ending.TheVariants as ending
use Rattle.px_feed.specs.declared.ending.Taken.{Taken}
use Rattle.px_feed.specs.declared.ending.Taken.TheVariants as taken
use Rattle.px_feed.specs.declared.feed.Items.{Items}
use Rattle.px_feed.specs.declared.status.Status.{Status}
use Rattle.px_feed.specs.declared.status.Status.TheVariants.{Memory}
use Rattle.px_feed.specs.Items.{Item, Adding, Removing, Replacing, Showing, most_bytes}
use Rattle.px_feed.specs.Outputs.{Ask, lines_for}
use Rattle.px_feed.specs.Taking.{GoesFurther, HasTaken, HasEnded, TakesBy, Answers}
use Rattle.px_feed.proofs.Fewness.{few-items}
use Rattle.px_lines.specs.declared.outgoing.Outgoing.{Outgoing}
use Rattle.px_lines.specs.Replying.{IsOf}
use Rattle.px_lines.specs.Standing.{Streams}
use Rattle.px_lines.specs.Waiting.{HasSaid, IsCut}
use Rattle.px_lines.proofs.FeedEnds.{cut_ended}
use Rattle.px_lines.proofs.FeedFronts.{begins}
use Rattle.px_lines.proofs.FeedItems.{is_showing}
use Rattle.px_lines.proofs.FeedStands.{not_failed}
use Rattle.px_lines.proofs.Spoken.{said_front}
use Rattle.px_gather.specs.declared.gathering.Gathering.{Gathering}
use Rattle.px_gather.specs.Asking.{AreShown}
use Rattle.px_gather.specs.Waiting.{Waits, Begun, Keeps, AllBegin, IsCutOff, documents_of}

-- the lines of items that were taken begin the output
pub taken_begin : (items : Items) (first left : Option (List ℕ)) (bytes : List ℕ) (given : List Item) → HasTaken items left bytes given →
    TakesFrom first bytes left → AllBegin first given
taken_begin items first left bytes given taken read = λ front rest asks same asked.
    let P : List Item → Type 0 = λ all. HasTaken items left bytes all in
    begins items first left bytes front rest asks (subst P same taken) asked read

-- before the first item
pub begun : (run : Gathering) → ((left : Option (List ℕ)) → HasTaken run.items left [] []) → documents_of run ≡ [] →
    ((held : Option (List ℕ)) → HasSaid run.outgoing held held []) → Begun run
begun run taken none said = record {
  waits = λ first. record {
    bytes = [];
    read = takes_nothing first.left;
    given = [];
    shown = [];
    are_shown = (let P : List Doc → Type 0 = λ docs. AreShown docs [] in subst P (sym none) tt);
    gave = taken first.left;
    all_begin = taken_begin run.items first.left first.left [] [] (taken first.left) (takes_nothing first.left);
    asked = tt;
    said = said first.held;
    many = omega arith;
    counted = omega arith;
    failed = λ e. absurd (cc);
  };
  none = none;
}

-- a run is cut short before its next line
pub waits_cut : (found : Option Taken) (run : Gathering) (asks : List Ask) (first before now : Streams) (least : ℕ) →
    (w : Waits found run asks first before least) → (status : Status) → IsCut status first.held now.held (lines_for [] asks) → IsCutOff status first now
waits_cut found run asks first before now least w status cut =
    (cut.0, cut_ended status first now (lines_for [] asks) (w.all_begin w.given w.shown asks refl w.asked) cut)

-- a run ends for want of memory
pub waits_memory : (found : Option Taken) (run : Gathering) (asks : List Ask) (first now : Streams) (least : ℕ) →
    Waits found run asks first now least → IsCutOff Memory first now
waits_memory found run asks first now least w =
    waits_cut found run asks first now now least w Memory (refl, said_front run.outgoing first.held now.held (lines_for [] asks) w.said)

-- what was found next
pub took_next : (found : Taken) (old new : Gathering) (asks : List Ask) (first before now : Streams) (least : ℕ) →
    (w : Waits None old asks first before least) → documents_of new ≡ documents_of old →
    HasSaid new.outgoing first.held now.held (lines_for [] asks) → TakesBy found new.items before.left now.left w.bytes (w.given ++ w.shown) →
    before.faults ≤ now.faults → (found ≡ taken.ReadFault → HasEnded old.items ending.ReadFault ⊎ Rose before.faults now.faults) →
    Waits (Some found) new asks first now least
took_next found old new asks first before now least w same said by counts failed = record {
  bytes = w.bytes ++ by.0;
  read = takes_both first.left before.left now.left w.bytes by.0 w.read by.1;
  given = w.given;
  shown = w.shown;
  are_shown = (let P : List Doc → Type 0 = λ docs. AreShown docs w.shown in subst P (sym same) w.are_shown);
  gave = by.2;
  all_begin = w.all_begin;
  asked = w.asked;
  said = said;
  many = w.many;
  counted = omega (arith, w.counted, counts);
  failed = λ e. rose (failed (as_found e));
}
  where
    as_found : Some found ≡ Some taken.ReadFault → found ≡ taken.ReadFault
    as_found e = cc

    rose : HasEnded old.items ending.ReadFault ⊎ Rose before.faults now.faults → Rose first.faults now.faults
    rose (inl ended) = absurd (not_failed old.items before.left w.bytes (w.given ++ w.shown) w.gave ended)
    rose (inr more) = rose_later first.faults before.faults now.faults w.counted more

-- the same of what stood in the bytes that were read
pub took_ready : (found : Taken) (old new : Gathering) (asks : List Ask) (first now : Streams) (least : ℕ) →
    (w : Waits None old asks first now least) → documents_of new ≡ documents_of old → new.outgoing ≡ old.outgoing →
    Answers found new.items now.left w.bytes (w.given ++ w.shown) → (found ≡ taken.ReadFault → HasEnded old.items ending.ReadFault) →
    Waits (Some found) new asks first now least
took_ready found old new asks first now least w same same_outgoing answers failed =
    let P : List ℕ → Type 0 = λ bytes. Answers found new.items now.left bytes (w.given ++ w.shown) in
    let Q : Outgoing → Type 0 = λ outgoing. HasSaid outgoing first.held now.held (lines_for [] asks) in
    took_next found old new asks first now now least w same (subst Q (sym same_outgoing) w.said)
    ([], takes_nothing now.left, subst P (sym (append-nil w.bytes)) answers) (omega arith) (λ e. inl (failed e))

-- no item stood there
pub rest_further : (old new : Gathering) (asks : List Ask) (first now : Streams) (least : ℕ) → (w : Waits None old asks first now least) →
    documents_of new ≡ documents_of old → new.outgoing ≡ old.outgoing → GoesFurther new.items w.bytes (w.given ++ w.shown) →
    Waits None new asks first now least
rest_further old new asks first now least w same same_outgoing further =
    let P : List Doc → Type 0 = λ docs. AreShown docs w.shown in
    let Q : Outgoing → Type 0 = λ outgoing. HasSaid outgoing first.held now.held (lines_for [] asks) in
    record {
      bytes = w.bytes;
      read = w.read;
      given = w.given;
      shown = w.shown;
      are_shown = subst P (sym same) w.are_shown;
      gave = inl further;
      all_begin = w.all_begin;
      asked = w.asked;
      said = subst Q (sym same_outgoing) w.said;
      many = w.many;
      counted = w.counted;
      failed = λ e. absurd (cc);
    }

-- one document more
shown_last : (docs : List Doc) (items : List Item) (doc : Doc) (root : Root) → AreShown docs items → IsOf doc root →
    AreShown (docs ++ doc ∷ []) (items ++ Showing root ∷ [])
shown_last [] [] doc root are is = (is, tt)
shown_last [] (item ∷ items) doc root are is = absurd are
shown_last (d ∷ docs) [] doc root are is = absurd are
shown_last (d ∷ docs) (Showing r ∷ items) doc root are is = (are.0, shown_last docs items doc root are.1 is)
shown_last (d ∷ docs) (Adding text ∷ items) doc root are is = absurd are
shown_last (d ∷ docs) (Removing text ∷ items) doc root are is = absurd are
shown_last (d ∷ docs) (Replacing id text ∷ items) doc root are is = absurd are

-- the document that was found waits
pub kept : (doc : Doc) (old new : Gathering) → documents_of new ≡ documents_of old ++ doc ∷ [] → new.items ≡ old.items → new.outgoing ≡ old.outgoing →
    Keeps doc old new
kept doc old new docs_are same same_outgoing = λ asks first now least w.
    let shown = is_showing doc w.gave.0 w.gave.1 in
    let last = Showing shown.0 ∷ [] in
    let P : Item → Type 0 = λ item. HasTaken old.items now.left w.bytes ((w.given ++ w.shown) ++ item ∷ []) in
    let Q : List Item → Type 0 = λ all. HasTaken old.items now.left w.bytes all in
    let R : Items → Type 0 = λ items. HasTaken items now.left w.bytes (w.given ++ (w.shown ++ last)) in
    let S : List Doc → Type 0 = λ docs. AreShown docs (w.shown ++ last) in
    let T : Outgoing → Type 0 = λ outgoing. HasSaid outgoing first.held now.held (lines_for [] asks) in
    let taken = subst R (sym same) (subst Q (append_assoc w.given w.shown last) (subst P shown.1 w.gave.2)) in
    record {
      bytes = w.bytes;
      read = w.read;
      given = w.given;
      shown = w.shown ++ last;
      are_shown = subst S (sym docs_are) (shown_last (documents_of old) w.shown doc shown.0 w.are_shown shown.2);
      gave = taken;
      all_begin = taken_begin new.items first.left now.left w.bytes (w.given ++ (w.shown ++ last)) taken w.read;
      asked = w.asked;
      said = subst T (sym same_outgoing) w.said;
      many = omega (arith, w.many, length-append w.shown last);
      counted = w.counted;
      failed = λ e. absurd (cc);
    }

-- a feed has not so many items
few : (most least given : ℕ) → most + 1 ≤ least → least ≤ given → given ≤ most → ⊥
few most least given more many within = absurd (omega arith)

pub waits_few : (run : Gathering) (asks : List Ask) (first now : Streams) (least : ℕ) → most_bytes + 1 ≤ least → Waits None run asks first now least → ⊥
waits_few run asks first now least more w =
    let within = few-items run.items now.left w.bytes (w.given ++ w.shown) w.gave in
    let P : ℕ → Type 0 = λ n. n ≤ most_bytes in
    few most_bytes least (length w.given + length w.shown) more w.many (subst P (length-append w.given w.shown) within)
