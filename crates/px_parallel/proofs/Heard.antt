-- The lines that were answered are heard.
use Rattle.std.proofs.Common.{◌≡◌, ℕ, List, [], ◌∷◌, ◌++◌, ap, sym, ◌∙◌, subst}
use Rattle.px_reader.specs.declared.doc.Doc.{Doc}
use Rattle.px_feed.specs.declared.item.Item.{Item}
use Rattle.px_feed.specs.declared.line.OutLine.{OutLine}
use Rattle.px_feed.specs.Outputs.{Ask, history_behind, lines_for}
use Rattle.px_feed.proofs.Replies.{lines-joined}
use Rattle.px_hub.specs.Passes.{PassView}
use Rattle.px_gather.specs.Asking.{AnswersChange, AnswersDocuments}
use Rattle.px_parallel.specs.Hearing.{HaveHeard}
use Rattle.px_parallel.specs.Leading.{HaveAnswered}

module _ {L : Type 0} (passes : ℕ) (heard : L → List OutLine → Type 0) (old new : List PassView) (listener after : L) where
  -- what is heard behind what was heard before
  heard_behind : (before asks : List Ask) (lines : List OutLine) → lines ≡ lines_for (history_behind [] before) asks →
      ((said : List OutLine) → heard listener said → heard after (said ++ lines)) → heard listener (lines_for [] before) →
      heard after (lines_for [] (before ++ asks))
  heard_behind before asks lines are hears h =
      let all = ap (λ (ls : List OutLine). lines_for [] before ++ ls) are ∙ sym (lines-joined [] before asks) in
      subst (heard after) all (hears (lines_for [] before) h)

  pub change_heard : (item : Item) (line : OutLine) → AnswersChange (HaveAnswered passes) item old new line →
      ((said : List OutLine) → heard listener said → heard after (said ++ line ∷ [])) →
      AnswersChange (HaveHeard passes heard) item (old, listener) (new, after) line
  change_heard item line answers hears = λ before brought h is.
      let a = answers before brought h.0 is in
      (a.0, a.1, (a.2, heard_behind before (a.0 ∷ []) (line ∷ []) a.1.lines_are hears h.1))

  pub documents_heard : (docs : List Doc) (lines : List OutLine) → AnswersDocuments (HaveAnswered passes) docs old new lines →
      ((said : List OutLine) → heard listener said → heard after (said ++ lines)) →
      AnswersDocuments (HaveHeard passes heard) docs (old, listener) (new, after) lines
  documents_heard docs lines answers hears = λ before shown h are.
      let a = answers before shown h.0 are in
      (a.0, a.1, (a.2, heard_behind before a.0 lines a.1.lines_are hears h.1))
