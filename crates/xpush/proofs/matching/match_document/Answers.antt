-- A line that was cut short.
use Rattle.std.proofs.Common.{List, ℕ, subst, ◌∙◌}
use Rattle.xpush.proofs.Lines.{cut_line}
use Rattle.px_lines.specs.Fronts.{AddsFront}
use Rattle.xpush.proofs.matching.match_document.Goals as goal

pub returns-in-Ok-line_of-clause-front : goal.returns-in-Ok-line_of-clause-front
returns-in-Ok-line_of-clause-front g c = λ t.
    let P : List ℕ → Type 0 = λ piece. AddsFront (g.K.Sink.held c.args.sink.now) piece (g.K.Sink.held c.write_answer.new.sink) in
    cut_line _ _ _ _ _ c.in-Ok.line c.in-Ok.ensures.line (subst P (c.as_slice.ensures.same ∙ c.in-Ok-line_of.ensures.text) (c.write_answer.ensures.front t))
