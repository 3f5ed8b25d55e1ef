-- A proof in front of a document, as they come from a source.
use Rattle.std.proofs.Common.{◌≡◌, ◌<◌, ◌≤◌, ◌+◌, ℕ, List, [], ◌∷◌, ◌++◌, length, Result, Ok, Err, IfOk, IfErr, IfSome, Option, Some, None, option_map, refl, ap, sym, ◌∙◌, subst, arith, length-append, append_assoc}
use Rattle.px_io.specs.Flows.{TakesFrom, IsSpent}
use Rattle.px_io.proofs.Flowing.{takes_both}
use Rattle.px_reader.specs.declared.fault.DocFault.{DocFault}
use Rattle.px_reader.specs.Verdicts.{HasVerdict, IsFaulty}
use Rattle.px_explain.specs.declared.node.ProofNode.{ProofNode}
use Rattle.px_explain.specs.declared.proof_reader.ProofReader.{ProofReader}
use Rattle.px_explain.specs.declared.reading.ProofFault.{ProofFault}
use Rattle.px_explain.specs.Incoming as incoming
use Rattle.px_explain.specs.Incoming.{HasProof, HasTaken, TakesOn, FailsAtEnd}
use Rattle.px_explain.specs.Openings.{AreLines, Opens, ProofThen, end_line}
use Rattle.px_explain.specs.Texts.{text_of}
use Rattle.px_explain.proofs.Incoming.{lines_more}
use Rattle.px_document.specs.Documents.{HasCome, GivesFine, IsFaultOf}
use Rattle.px_document.specs.Proofs.{Takes, EndsProof, GivesFineOpening, OpensDocument, Halts, HaltsAt, HaltsIn, BeginsBadly, in_proof, in_document}
use Rattle.px_document.specs.declared.document.Document.{Document}
use Rattle.px_document.specs.declared.opening.Halt.{Halt}
use Rattle.px_document.specs.declared.opening.Opened.{Opened}
use Rattle.px_document.specs.declared.opening.Halt.TheVariants as halt
use Rattle.px_document.specs.declared.stop.Stop.{Stop}
use Rattle.px_document.specs.declared.stop.Stop.TheVariants as stop
use Rattle.px_document.proofs.Coming.{was_left, all_taken, not_truncated}

-- what a proof and a document begin with, they begin with however the document goes on
pub opens_more : (bytes more document : List ℕ) (nodes : List ProofNode) → Opens bytes (ProofThen nodes document) → Opens (bytes ++ more) (ProofThen nodes (document ++ more))
opens_more bytes more document nodes a = lines_more nodes (end_line ++ document) bytes more a

-- a document that was stopped at its first bytes
pub halts_at : {A : Type 0} (result : Result A Stop) (by : Stop) (begun : List ℕ) → result ≡ Err by → ((fault : DocFault) → result ≡ Err (stop.Doc fault) → IsFaultOf fault begun) →
    (result ≡ Err stop.Source → ⊥) → HaltsAt (halt.Document by) begun
halts_at result (stop.Doc fault) begun e faulty read = faulty fault e
halts_at result stop.Source begun e faulty read = read e
halts_at result stop.Memory begun e faulty read = tt

-- the same behind a proof
pub halts_in : (by : Halt) (begun bytes : List ℕ) (reader : ProofReader) → HaltsAt by begun → HasProof reader begun bytes → HaltsIn by bytes
halts_in (halt.Proof fault) begun bytes reader h p = absurd h
halts_in (halt.Document (stop.Doc fault)) begun bytes reader h p = record { nodes = reader.nodes.items; begun = begun; opens = p.lines; at_fault = h }
halts_in (halt.Document stop.Source) begun bytes reader h p = absurd h
halts_in (halt.Document stop.Memory) begun bytes reader h p = tt

-- and so of all that was left
pub halts_all : (by : Halt) (bytes : List ℕ) (left now : Option (List ℕ)) → TakesFrom left bytes now → HaltsIn by bytes → Halts by left
halts_all (halt.Proof fault) bytes left now taken h = λ all e.
    let found = was_left all bytes left now taken e in
    (let P : List ℕ → Type 0 = λ one. incoming.IsFaultOf fault one in subst P (sym found.1) (h found.0))
halts_all (halt.Document (stop.Doc fault)) bytes left now taken h = record {
  verdict = λ all e.
      let found = was_left all bytes left now taken e in
      let P : List ℕ → Type 0 = λ one. Opens one (ProofThen h.nodes (h.begun ++ found.0)) in
      (h.nodes, h.begun ++ found.0, subst P (sym found.1) (opens_more bytes found.0 h.begun h.nodes h.opens), h.at_fault found.0);
  early = not_truncated h.begun fault h.at_fault;
}
halts_all (halt.Document stop.Source) bytes left now taken h = tt
halts_all (halt.Document stop.Memory) bytes left now taken h = tt

-- a piece more was taken
pub takes_more : (least : ℕ) (left before after : Option (List ℕ)) (old new : ProofReader) (piece : List ℕ) → Takes least left before old → TakesFrom before piece after → 0 < length piece →
    TakesOn old new piece → Takes (least + 1) left after new
takes_more least left before after old new piece t taken some on = record {
  bytes = t.bytes ++ piece;
  taken = takes_both left before after t.bytes piece t.taken taken;
  has_taken = on t.bytes t.has_taken;
  many = omega (arith, t.many, some, length-append t.bytes piece);
}

-- the proof ended in the piece
pub ends_in : (result : Result (Option Document) Halt) (old new : ProofReader) (before after : Option (List ℕ)) (piece : List ℕ) → TakesFrom before piece after →
    IfOk result (λ found. IfSome found (λ document. (begun : List ℕ) × incoming.EndsProof old new piece begun × HasCome document begun)) →
    IfOk result (λ found. IfSome found (λ document. (least : ℕ) (left : Option (List ℕ)) → Takes least left before old → EndsProof left after new document))
ends_in (Ok (Some document)) old new before after piece taken h = λ least left t. record {
  bytes = t.bytes ++ piece;
  begun = h.0;
  taken = takes_both left before after t.bytes piece t.taken taken;
  has_proof = h.1 t.bytes t.has_taken;
  come = h.2;
}
ends_in (Ok None) old new before after piece taken h = tt
ends_in (Err by) old new before after piece taken h = tt

-- the reading was stopped in the piece
pub stops_in : (result : Result (Option Document) Halt) (old : ProofReader) (before after : Option (List ℕ)) (piece : List ℕ) → TakesFrom before piece after →
    IfErr result (λ by. (bytes : List ℕ) → HasTaken old bytes → HaltsIn by (bytes ++ piece)) →
    IfErr result (λ by. (least : ℕ) (left : Option (List ℕ)) → Takes least left before old → Halts by left)
stops_in (Ok found) old before after piece taken h = tt
stops_in (Err by) old before after piece taken h = λ least left t.
    halts_all by (t.bytes ++ piece) left after (takes_both left before after t.bytes piece t.taken taken) (h t.bytes t.has_taken)

-- no fault of the source stops a document at its first bytes
pub not_of_source : {A : Type 0} (result : Result A Halt) (by : Halt) (begun : List ℕ) → HaltsAt by begun → result ≡ Err by → result ≡ Err (halt.Document stop.Source) → ⊥
not_of_source result (halt.Proof fault) begun h e f = h
not_of_source result (halt.Document (stop.Doc fault)) begun h e f = absurd (cc)
not_of_source result (halt.Document stop.Source) begun h e f = h
not_of_source result (halt.Document stop.Memory) begun h e f = absurd (cc)

-- the source ended before the proof did
pub ends_early : (fault : ProofFault) (reader : ProofReader) (now : Option (List ℕ)) → FailsAtEnd reader fault → IsSpent now →
    (least : ℕ) (left : Option (List ℕ)) → Takes least left now reader → Halts (halt.Proof fault) left
ends_early fault reader now fails spent least left t = λ bytes e.
    let P : List ℕ → Type 0 = λ one. incoming.IsFaultOf fault one in
    subst P (sym (all_taken bytes t.bytes left now t.taken spent e)) (fails t.bytes t.has_taken)

-- nothing is left behind the proof, once it is finished
pub opens_document : (left now : Option (List ℕ)) (reader : ProofReader) (document : Document) (nodes : List ProofNode) → ((begun bytes : List ℕ) → HasProof reader begun bytes → Opens bytes (ProofThen nodes begun)) →
    EndsProof left now reader document → OpensDocument left now (record { proof = nodes; document = document })
opens_document left now reader document nodes finished p = record {
  bytes = p.bytes;
  begun = p.begun;
  taken = p.taken;
  opens = finished p.begun p.bytes p.has_proof;
  come = p.come;
}

-- the source met a fault before the proof ended
pub fine_in_proof : (least : ℕ) (left before now : Option (List ℕ)) (reader : ProofReader) → Takes least left before reader → now ≡ before → GivesFineOpening left now
fine_in_proof least left before now reader t e = record {
  bytes = t.bytes;
  taken = t.taken ∙ ap (option_map (λ rest. t.bytes ++ rest)) (sym e);
  fine = in_proof reader.nodes.items reader.begun.items t.has_taken.lines t.has_taken.no_feed t.has_taken.short;
}

-- a part that was taken, where its end is given back
followed : (front begun bytes : List ℕ) (left now : Option (List ℕ)) → bytes ≡ front ++ begun → TakesFrom left bytes now → TakesFrom left front (option_map (λ rest. begun ++ rest) now)
followed front begun bytes left None e taken = taken
followed front begun bytes left (Some rest) e taken = taken ∙ ap Some (ap (λ all. all ++ rest) e ∙ append_assoc front begun rest)

-- a proof in front of another document
goes_on : (nodes : List ProofNode) (begun more bytes : List ℕ) → AreLines nodes (end_line ++ begun) bytes → AreLines nodes (end_line ++ more) ((text_of nodes ++ end_line) ++ more)
goes_on nodes begun more bytes a = record { small = a.small; few = a.few; bytes_are = append_assoc (text_of nodes) end_line more }

-- the source met a fault behind the proof
pub fine_behind : (left now after : Option (List ℕ)) (opened : Opened) → (o : OpensDocument left now opened) → GivesFine (option_map (λ rest. o.begun ++ rest) now) after → GivesFineOpening left after
fine_behind left now after opened o g =
    let front = text_of opened.proof ++ end_line in
    record {
      bytes = front ++ g.bytes;
      taken = takes_both left (option_map (λ rest. o.begun ++ rest) now) after front g.bytes
          (followed front o.begun o.bytes left now (o.opens.bytes_are ∙ sym (append_assoc (text_of opened.proof) end_line o.begun)) o.taken) g.taken;
      fine = in_document opened.proof g.bytes (goes_on opened.proof o.begun g.bytes o.bytes o.opens) g.fine;
    }
