-- The text of a finding is written, and the run ends with its status.
use Rattle.std.proofs.Common.{List, ℕ, subst, ◌∙◌}
use Rattle.px_io.specs.Flows.{AddsTo}
use Rattle.px_lines.specs.Fronts.{AddsFront}
use Rattle.xpush.proofs.WhatIsFound.{finishes}
use Rattle.xpush.proofs.proving.write_finding.Goals as goal

pub write_answer-requires : goal.write_answer-requires
write_answer-requires g c = finishes c.status.result c.status.ensures.finished

pub returns-in-Ok-clause-whole : goal.returns-in-Ok-clause-whole
returns-in-Ok-clause-whole g c = λ t.
    let P : List ℕ → Type 0 = λ piece. AddsTo (g.K.Sink.held c.args.sink.now) piece (g.K.Sink.held c.write_answer.new.sink) in
    let whole = c.write_answer.ensures.whole t in
    (subst P (c.as_slice.ensures.same ∙ c.in-Ok.ensures.text) whole.0, whole.1 ∙ c.status.ensures.status)

pub returns-in-Ok-clause-front : goal.returns-in-Ok-clause-front
returns-in-Ok-clause-front g c = λ t.
    let P : List ℕ → Type 0 = λ piece. AddsFront (g.K.Sink.held c.args.sink.now) piece (g.K.Sink.held c.write_answer.new.sink) in
    subst P (c.as_slice.ensures.same ∙ c.in-Ok.ensures.text) (c.write_answer.ensures.front t)
