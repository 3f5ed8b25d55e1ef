-- The root is closed behind the last line, or the document is cut short.
use Rattle.std.proofs.Common.{length, sym, ◌∙◌, subst}
use Rattle.px_reader.specs.declared.fault.DocKind.TheVariants.{Truncated}
use Rattle.px_reader.specs.Lines.{lines_of}
use Rattle.px_reader.specs.Verdicts.{HasVerdict, IsFaulty}
use Rattle.px_reader.proofs.Recording.{closed_tree, truncated}
use Rattle.px_reader.proofs.recorder.close.Goals as goal

pub returns-then-not-is_behind_root-clause-fault : goal.returns-then-not-is_behind_root-clause-fault
returns-then-not-is_behind_root-clause-fault c =
    let new = c.take_last.new in
    subst (λ bs. HasVerdict bs (IsFaulty (length (lines_of bs)) Truncated)) c.in_ok-take_last.ensures.same
    (truncated new.scanner new.bytes.items new.events c.in_ok-take_last.ensures.records (sym (c.is_behind_root.ensures new.bytes.items) ∙ c.if-not-is_behind_root.true))

pub returns-clause-closed : goal.returns-clause-closed
returns-clause-closed c =
    let new = c.take_last.new in
    closed_tree new.scanner new.bytes.items new.events c.in_ok-take_last.ensures.records (sym (c.is_behind_root.ensures new.bytes.items) ∙ c.if-not-is_behind_root.false)
