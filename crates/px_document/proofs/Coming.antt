-- A document that comes piece by piece.
use Rattle.std.proofs.Common.{◌≡◌, ◌<◌, ◌+◌, ℕ, ◌≤◌, List, [], ◌∷◌, ◌++◌, Result, Ok, Err, IfOk, IfErr, length, Option, Some, None, option_map, refl, ap, sym, ◌∙◌, subst, arith, length-append, append-nil}
use Rattle.px_text.specs.Nodes.{Root}
use Rattle.px_io.specs.Flows.{TakesFrom, IsSpent}
use Rattle.px_io.proofs.Flowing.{takes_both, takes_nothing}
use Rattle.px_reader.specs.declared.event.Event.{Event}
use Rattle.px_reader.specs.declared.fault.DocFault.{DocFault}
use Rattle.px_reader.specs.declared.fault.DocKind.{DocKind}
use Rattle.px_reader.specs.declared.fault.DocKind.TheVariants.{Truncated}
use Rattle.px_reader.specs.declared.fault.ReaderFault.{ReaderFault}
use Rattle.px_reader.specs.declared.fault.ReaderFault.TheVariants as fault
use Rattle.px_reader.specs.Progress.{Progress}
use Rattle.px_reader.specs.Reading.{HasRead, ReadsPart, EndsWhole, FailsBy, FailsAtEnd}
use Rattle.px_reader.proofs.Endless.{never_truncated}
use Rattle.px_reader.specs.Spelling.{events_of}
use Rattle.px_reader.specs.Verdicts.{Verdict, HasVerdict, IsFaulty, IsTree}
use Rattle.px_document.specs.Documents.{HasCome, Comes, GivesTree, GivesFault, GivesFine, IsFaultOf, IsFineSoFar}
use Rattle.px_document.specs.Stops.{stop_of}
use Rattle.px_document.specs.declared.document.Document.{Document}
use Rattle.px_document.specs.declared.stop.Stop.{Stop}
use Rattle.px_document.specs.declared.stop.Stop.TheVariants as stop

-- a fault of the document came from the reader
pub stopped_by_doc : {A : Type 0} (given : Result A Stop) (by : ReaderFault) (found : Stop) (wanted : DocFault) → given ≡ Err found → found ≡ stop_of by →
    given ≡ Err (stop.Doc wanted) → by ≡ fault.Doc wanted
stopped_by_doc given (fault.Doc doc) found wanted e p q = cc
stopped_by_doc given fault.Memory found wanted e p q = absurd (cc)

-- the reader has read on, with all events behind the earlier ones
pub come_on : (old new : Progress) (before behind : List Event) (piece bytes : List ℕ) → ReadsPart old new piece before behind → HasRead old bytes before → HasRead new (bytes ++ piece) behind
come_on old new before behind piece bytes on r =
    let found = on bytes before r in
    let P : List Event → Type 0 = λ events. HasRead new (bytes ++ piece) events in subst P (sym found.1) found.2

-- a fault however the bytes go on
pub fault_on : (old : Progress) (before : List Event) (piece bytes : List ℕ) (by : ReaderFault) (wanted : DocFault) → FailsBy old piece by → by ≡ fault.Doc wanted → HasRead old bytes before →
    IsFaultOf wanted (bytes ++ piece)
fault_on old before piece bytes by wanted fails e r = let P : ReaderFault → Type 0 = λ one. FailsBy old piece one in subst P e fails bytes before r

-- all events of the tree
pub all_events : (old : Progress) (before behind : List Event) (bytes : List ℕ) → EndsWhole old before behind → HasRead old bytes before →
    (root : Root) × (behind ≡ events_of root) × HasVerdict bytes (IsTree root)
all_events old before behind bytes ends r = let found = ends bytes before r in (found.0, found.2 ∙ sym found.3, found.4)

pub verdict_at_end : (old : Progress) (before : List Event) (bytes : List ℕ) (by : ReaderFault) (wanted : DocFault) → FailsAtEnd old by → by ≡ fault.Doc wanted → HasRead old bytes before →
    HasVerdict bytes (IsFaulty wanted.line wanted.kind)
verdict_at_end old before bytes by wanted fails e r = let P : ReaderFault → Type 0 = λ one. FailsAtEnd old one in subst P e fails bytes before r

-- the tree of the events is that of the verdict
pub tree_verdict : {A E : Type 0} (tree : A → Root) (result : Result A E) (root : Root) (bytes : List ℕ) → IfOk result (λ found. tree found ≡ root) → HasVerdict bytes (IsTree root) →
    IfOk result (λ found. HasVerdict bytes (IsTree (tree found)))
tree_verdict tree (Ok found) root bytes e v = let P : Root → Type 0 = λ one. HasVerdict bytes (IsTree one) in subst P (sym e) v
tree_verdict tree (Err stop) root bytes e v = tt

-- a piece more has come
pub comes_more : (least : ℕ) (left before after : Option (List ℕ)) (document new : Document) (piece : List ℕ) → Comes least left before document → TakesFrom before piece after → 0 < length piece →
    ((bytes : List ℕ) → HasCome document bytes → HasCome new (bytes ++ piece)) → Comes (least + 1) left after new
comes_more least left before after document new piece c taken some on = record {
  bytes = c.bytes ++ piece;
  taken = takes_both left before after c.bytes piece c.taken taken;
  come = on c.bytes c.come;
  many = omega (arith, c.many, some, length-append c.bytes piece);
}

-- what was all left, where the front that was taken is known
pub was_left : (bytes front : List ℕ) (left after : Option (List ℕ)) → TakesFrom left front after → left ≡ Some bytes → (rest : List ℕ) × (bytes ≡ front ++ rest) × (after ≡ Some rest)
was_left bytes front left None taken e = absurd (cc)
was_left bytes front left (Some rest) taken e = (rest, cc, refl)

-- such a fault is not that the document is truncated
pub not_truncated : (front : List ℕ) (fault : DocFault) → IsFaultOf fault front → fault.kind ≡ Truncated → ⊥
not_truncated front fault verdict truncated =
    let P : DocKind → Type 0 = λ kind. (rest : List ℕ) → HasVerdict (front ++ rest) (IsFaulty fault.line kind) in
    never_truncated front fault.line (subst P truncated verdict)

-- a fault that shows whatever follows is that of the document
pub shows_fault : (left after : Option (List ℕ)) (front : List ℕ) (fault : DocFault) → TakesFrom left front after → IsFaultOf fault front → GivesFault left after fault
shows_fault left after front fault taken verdict = record {
  verdict = λ bytes e.
      let found = was_left bytes front left after taken e in
      (let P : List ℕ → Type 0 = λ all. HasVerdict all (IsFaulty fault.line fault.kind) in subst P (sym found.1) (verdict found.0));
  spent = λ truncated. absurd (not_truncated front fault verdict truncated);
}

-- what was all left, where nothing is left behind the front that was taken
pub all_taken : (bytes front : List ℕ) (left now : Option (List ℕ)) → TakesFrom left front now → IsSpent now → left ≡ Some bytes → bytes ≡ front
all_taken bytes front left None taken spent e = absurd (cc)
all_taken bytes front left (Some rest) taken spent e =
    let found = was_left bytes front left (Some rest) taken e in
    let empty : rest ≡ [] = cc in
    let whole : bytes ≡ front ++ rest = cc in whole ∙ ap (λ tail. front ++ tail) empty ∙ append-nil front

-- the verdict on what has come is that on what was left
pub of_all_left : (left now : Option (List ℕ)) (front : List ℕ) (verdict : Verdict) → TakesFrom left front now → IsSpent now → HasVerdict front verdict →
    (bytes : List ℕ) → left ≡ Some bytes → HasVerdict bytes verdict
of_all_left left now front verdict taken spent v bytes e =
    let P : List ℕ → Type 0 = λ all. HasVerdict all verdict in subst P (sym (all_taken bytes front left now taken spent e)) v

-- a document that has come to its end
pub gives_tree : {A E : Type 0} (tree : A → Root) (result : Result A E) (left now : Option (List ℕ)) (front : List ℕ) → TakesFrom left front now → IsSpent now →
    IfOk result (λ found. HasVerdict front (IsTree (tree found))) → IfOk result (λ found. GivesTree left now (tree found))
gives_tree tree (Ok found) left now front taken spent v = record { spent = spent; verdict = of_all_left left now front (IsTree (tree found)) taken spent v }
gives_tree tree (Err stop) left now front taken spent v = tt

pub gives_fault : (left now : Option (List ℕ)) (front : List ℕ) (fault : DocFault) → TakesFrom left front now → IsSpent now → HasVerdict front (IsFaulty fault.line fault.kind) → GivesFault left now fault
gives_fault left now front fault taken spent v = record { verdict = of_all_left left now front (IsFaulty fault.line fault.kind) taken spent v; spent = λ _. spent }

-- a document comes from what was left before it began
pub comes_at : (now : Option (List ℕ)) (document : Document) (bytes : List ℕ) → HasCome document bytes → Comes 0 (option_map (λ rest. bytes ++ rest) now) now document
comes_at now document bytes come = record { bytes = bytes; taken = refl; come = come; many = omega arith }

-- what was refused for memory was not refused for anything else
pub refused_for_memory : {A : Type 0} (result : Result A Stop) (other : Stop) → IfErr result (λ by. by ≡ stop.Memory) → result ≡ Err other → other ≡ stop.Memory
refused_for_memory (Ok found) other h e = absurd (cc)
refused_for_memory (Err by) other h e = cc

-- the source is at its end
pub comes_still : (least : ℕ) (left before now : Option (List ℕ)) (document new : Document) → Comes least left before document → now ≡ before → new ≡ document → Comes least left now new
comes_still least left before now document new c e f =
    let P : Option (List ℕ) → Type 0 = λ rest. Comes least left rest document in
    let Q : Document → Type 0 = λ one. Comes least left now one in subst Q (sym f) (subst P (sym e) c)

-- nothing has come yet
pub comes_none : (left : Option (List ℕ)) (document : Document) → HasCome document [] → Comes 0 left left document
comes_none left document come = record { bytes = []; taken = takes_nothing left; come = come; many = omega arith }

-- what was read without a fault is fine so far
pub fine_so_far : (reader : Progress) (bytes : List ℕ) (given : List Event) → HasRead reader bytes given → IsFineSoFar bytes
fine_so_far reader bytes given r = record {
  ended = r.reading.ended;
  begun = r.reading.begun;
  bytes_are = r.reading.bytes_are;
  whole = r.reading.whole;
  no_feed = r.reading.no_feed;
  fine = r.reading.judged.fine;
  small = r.reading.small;
}

-- the source met a fault behind what has come
pub gives_fine : (least : ℕ) (left before now : Option (List ℕ)) (document : Document) → Comes least left before document → now ≡ before → GivesFine left now
gives_fine least left before now document c e = record {
  bytes = c.bytes;
  taken = c.taken ∙ ap (option_map (λ rest. c.bytes ++ rest)) (sym e);
  fine = fine_so_far document.reader c.bytes document.events.items c.come.read;
}
