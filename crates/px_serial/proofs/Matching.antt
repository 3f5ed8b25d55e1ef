-- The ids that a document of a feed matches.
use Rattle.std.proofs.Common.{◌≡◌, ℕ, List, Result, Ok, Err, IfOk, sym, ap, ◌∙◌}
use Rattle.px_text.specs.Nodes.{Root}
use Rattle.px_reader.specs.Documents.{content}
use Rattle.px_reader.specs.Spelling.{events_of}
use Rattle.px_reader.specs.Verdicts.{AreEvents}
use Rattle.px_reader.specs.declared.doc.Doc.{Doc}
use Rattle.px_reader.specs.declared.event.Event.{Event}
use Rattle.px_reader.proofs.Telling.{tree_one}
use Rattle.px_xpath.specs.Histories.{Change, matches}
use Rattle.px_lines.specs.Replying.{IsOf}

-- the ids of a document that is one
pub doc_ids : {E : Type 0} (doc : Doc) (events : List Event) (h : List Change) (result : Result (List ℕ) E) → AreEvents (content doc) events →
    IfOk result (λ ids. (root : Root) → events_of root ≡ events → ids ≡ matches h root) → (root : Root) → IsOf doc root → IfOk result (λ ids. ids ≡ matches h root)
doc_ids doc events h (Ok ids) are found root is =
    let same : are.root ≡ root = tree_one (content doc) are.root root are.verdict is.verdict in found root (ap events_of (sym same) ∙ sym are.events_are)
doc_ids doc events h (Err e) are found root is = tt
