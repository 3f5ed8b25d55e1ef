-- A document that is read piece by piece.
use Rattle.std.proofs.Common.{◌≡◌, ◌<◌, ◌+◌, ℕ, ◌≤◌, ◌^◌, List, [], ◌∷◌, ◌++◌, Result, Ok, Err, IfOk, length, Option, Some, None, option_map, ap, sym, ◌∙◌, subst, arith, length-append, append-nil}
use Rattle.px_text.specs.Nodes.{Root}
use Rattle.px_xpath.specs.declared.numbered.Numbered.{Numbered}
use Rattle.px_xpath.specs.Filters.{Way}
use Rattle.px_xpath.specs.Subscribed.{subscriptions}
use Rattle.px_afa.specs.Building.{Automata, automata}
use Rattle.px_machine.specs.declared.machine.Machine.{Machine}
use Rattle.px_machine.specs.Machines.{HasRun}
use Rattle.px_io.specs.Flows.{TakesFrom, IsSpent}
use Rattle.px_io.proofs.Flowing.{takes_both}
use Rattle.px_reader.specs.declared.event.Event.{Event}
use Rattle.px_reader.specs.declared.fault.DocFault.{DocFault}
use Rattle.px_reader.specs.declared.fault.DocKind.{DocKind}
use Rattle.px_reader.specs.declared.fault.DocKind.TheVariants.{Truncated}
use Rattle.px_reader.specs.declared.reader.Reader.{Reader}
use Rattle.px_reader.specs.Reading.{HasRead, GivesOn, EndsTree}
use Rattle.px_reader.proofs.Endless.{never_truncated}
use Rattle.px_reader.specs.Spelling.{events_of}
use Rattle.px_reader.specs.Verdicts.{Verdict, HasVerdict, IsFaulty, IsTree}
use Rattle.px_document.specs.Documents.{GivesFine}
use Rattle.px_document.proofs.Coming.{fine_so_far}
use Rattle.xpush.specs.Documents.{Reads, IsAtEnd, GivesIds, GivesMatch, GivesFault}
use Rattle.xpush.specs.Verdicts.{ids_accepted, ids_matching}
use Rattle.xpush.proofs.Taking.{accepts}

-- a piece that is judged goes on from what was read
pub reads_more : (least : ℕ) (left before after : Option (List ℕ)) (reader reader_now : Reader) (given came more : List Event) (piece : List ℕ) →
    (r : Reads least left before reader given) → TakesFrom before piece after → 0 < length piece → came ≡ more →
    HasRead reader_now (r.bytes ++ piece) (given ++ more) → Reads (least + 1) left after reader_now (given ++ came)
reads_more least left before after reader reader_now given came more piece r taken some e read = record {
  bytes = r.bytes ++ piece;
  taken = takes_both left before after r.bytes piece r.taken taken;
  read = (let P : List Event → Type 0 = λ events. HasRead reader_now (r.bytes ++ piece) (given ++ events) in subst P (sym e) read);
  many = omega (arith, r.many, length-append r.bytes piece);
}

-- what was all left, where the front that was taken is known
was_left : (bytes front : List ℕ) (left after : Option (List ℕ)) → TakesFrom left front after → left ≡ Some bytes → (rest : List ℕ) × (bytes ≡ front ++ rest)
was_left bytes front left None taken e = absurd (cc)
was_left bytes front left (Some rest) taken e = (rest, cc)

-- a fault that shows whatever follows is that of the document
pub shows_fault : (least : ℕ) (left before after : Option (List ℕ)) (reader : Reader) (given : List Event) (piece : List ℕ) (fault : DocFault) →
    (r : Reads least left before reader given) → TakesFrom before piece after →
    ((rest : List ℕ) → HasVerdict (r.bytes ++ piece ++ rest) (IsFaulty fault.line fault.kind)) → GivesFault left after fault
shows_fault least left before after reader given piece fault r taken verdict = record {
  verdict = λ bytes e.
      let found = was_left bytes (r.bytes ++ piece) left after (takes_both left before after r.bytes piece r.taken taken) e in
      (let P : List ℕ → Type 0 = λ all. HasVerdict all (IsFaulty fault.line fault.kind) in subst P (sym found.1) (verdict found.0));
  spent = λ truncated.
      let always : (rest : List ℕ) → HasVerdict (r.bytes ++ piece ++ rest) (IsFaulty fault.line Truncated) =
      (let P : DocKind → Type 0 = λ kind. (rest : List ℕ) → HasVerdict (r.bytes ++ piece ++ rest) (IsFaulty fault.line kind) in subst P truncated verdict) in
      absurd (never_truncated (r.bytes ++ piece) fault.line always);
}

-- what was all left, where nothing is left behind the front that was taken
all_taken : (bytes front : List ℕ) (left now : Option (List ℕ)) → TakesFrom left front now → IsSpent now → left ≡ Some bytes → bytes ≡ front
all_taken bytes front left None taken spent e = absurd (cc)
all_taken bytes front left (Some rest) taken spent e =
    let found = was_left bytes front left (Some rest) taken e in
    let empty : rest ≡ [] = cc in
    let whole : bytes ≡ front ++ rest = cc in whole ∙ ap (λ tail. front ++ tail) empty ∙ append-nil front

-- the verdict on what was read is that on what was left
of_all_left : (least : ℕ) (left now : Option (List ℕ)) (reader : Reader) (given : List Event) (verdict : Verdict) →
    (r : Reads least left now reader given) → IsSpent now → HasVerdict r.bytes verdict → (bytes : List ℕ) → left ≡ Some bytes → HasVerdict bytes verdict
of_all_left least left now reader given verdict r spent v bytes e =
    let P : List ℕ → Type 0 = λ all. HasVerdict all verdict in subst P (sym (all_taken bytes r.bytes left now r.taken spent e)) v

-- nothing stood before what came
pub came_is : (before came more : List Event) → before ≡ [] → came ≡ before ++ more → came ≡ more
came_is before came more none e = e ∙ ap (λ front. front ++ more) none

-- what came is few enough with what came before
pub few_more : (given before came : List Event) → before ≡ [] → GivesOn given before came → length (given ++ came) ≤ 16_777_216
few_more given before came none t =
    let P : List Event → Type 0 = λ events. length (given ++ events) ≤ 16_777_216 in
    let same : came ≡ t.0 = came_is before came t.0 none t.1 in
    subst P (sym same) t.3

pub ends_whole : (bytes : List ℕ) (given before came : List Event) → before ≡ [] → EndsTree bytes given before came →
    (root : Root) × (events_of root ≡ given ++ came) × HasVerdict bytes (IsTree root)
ends_whole bytes given before came none t =
    let same : came ≡ t.1 = came_is before came t.1 none t.2 in
    (t.0, t.3 ∙ ap (λ events. given ++ events) (sym same), t.4)

-- the last events, which the machine has still to take
pub last_taken : (machine : Machine) (program : Automata) (bytes : List ℕ) (given before came seen : List Event) → seen ≡ came → before ≡ [] → HasRun machine program given →
    EndsTree bytes given before came → (on : Automata) × (all : List Event) × (root : Root) × HasRun machine on all × (events_of root ≡ all ++ seen)
last_taken machine program bytes given before came seen e none run ends =
    let whole = ends_whole bytes given before came none ends in
    (program, given, whole.0, run, whole.1 ∙ ap (λ es. given ++ es) (sym e))

-- a document that is read to its end
pub gives_ids : (machine : Machine) (program : Automata) (least : ℕ) (left now : Option (List ℕ)) (reader : Reader) (given before came seen : List Event) (ids : List ℕ) → seen ≡ came →
    (r : Reads least left now reader given) → IsSpent now → before ≡ [] → EndsTree r.bytes given before came → HasRun machine program given →
    ((on : Automata) (all : List Event) (root : Root) → HasRun machine on all → events_of root ≡ all ++ seen → ids ≡ ids_accepted on root) →
    GivesIds program left now ids
gives_ids machine program least left now reader given before came seen ids e r spent none ends run accepts =
    let whole = ends_whole r.bytes given before came none ends in
    record {
      root = whole.0;
      ids_are = accepts program given whole.0 run (whole.1 ∙ ap (λ es. given ++ es) (sym e));
      spent = spent;
      verdict = of_all_left least left now reader given (IsTree whole.0) r spent whole.2;
    }

-- a document whose fault shows at its end
pub gives_fault : (least : ℕ) (left now : Option (List ℕ)) (reader : Reader) (given : List Event) (fault : DocFault) →
    (r : Reads least left now reader given) → IsSpent now → HasVerdict r.bytes (IsFaulty fault.line fault.kind) → GivesFault left now fault
gives_fault least left now reader given fault r spent verdict = record {
  verdict = of_all_left least left now reader given (IsFaulty fault.line fault.kind) r spent verdict;
  spent = λ _. spent;
}

-- the source is at its end, so that what was read before is all
pub read_all : (least : ℕ) (left before now : Option (List ℕ)) (reader reader_now : Reader) (given : List Event) →
    Reads least left before reader given → IsAtEnd before now reader reader_now → Reads least left now reader_now given
read_all least left before now reader reader_now given r end =
    let Q : Reader → Type 0 = λ one. Reads least left now one given in
    let R : Option (List ℕ) → Type 0 = λ rest. Reads least left rest reader given in
    subst Q (sym end.same_reader) (subst R (sym end.still_left) r)

-- the ids that the program of one filter accepts are its matches
pub gives_match : (only : List Numbered) (filter : Way) (program : Automata) (left now : Option (List ℕ)) (ids : List ℕ) → program ≡ automata (subscriptions only) →
    subscriptions only ≡ record { id = 1; filter = filter } ∷ [] → GivesIds program left now ids → GivesMatch filter left now ids
gives_match only filter program left now ids e one g = record {
  root = g.root;
  ids_are = g.ids_are ∙ accepts only program g.root e ∙ ap (λ live. ids_matching live g.root) one;
  spent = g.spent;
  verdict = g.verdict;
}

pub gives_matches : {E : Type 0} (only : List Numbered) (filter : Way) (program : Automata) (left now : Option (List ℕ)) (result : Result (List ℕ) E) →
    program ≡ automata (subscriptions only) → subscriptions only ≡ record { id = 1; filter = filter } ∷ [] →
    IfOk result (λ ids. GivesIds program left now ids) → IfOk result (λ ids. GivesMatch filter left now ids)
gives_matches only filter program left now (Ok ids) e one g = gives_match only filter program left now ids e one g
gives_matches only filter program left now (Err found) e one g = tt

-- the source met a fault behind what was read
pub gives_fine : (least : ℕ) (left before now : Option (List ℕ)) (reader : Reader) (given : List Event) → Reads least left before reader given → now ≡ before → GivesFine left now
gives_fine least left before now reader given r e = record {
  bytes = r.bytes;
  taken = r.taken ∙ ap (option_map (λ rest. r.bytes ++ rest)) (sym e);
  fine = fine_so_far reader r.bytes given r.read;
}
