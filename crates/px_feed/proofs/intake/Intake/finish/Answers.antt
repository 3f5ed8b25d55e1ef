-- The bytes are all.
use Rattle.std.proofs.Common.{Ok, inr, refl, sym, subst}
use Rattle.px_reader.specs.Lines.{lines_of}
use Rattle.px_feed.specs.declared.ending.Ending.TheVariants as ending
use Rattle.px_feed.specs.Cutting.{EndsBy}
use Rattle.px_feed.specs.Progressing.{progress}
use Rattle.px_feed.specs.Taking.{Ends}
use Rattle.px_feed.proofs.Takings.{ends_failure, answers_stop}
use Rattle.px_feed.proofs.intake.Intake.finish.Goals as goal

pub returns-in-Ok-None-clause-ends : goal.returns-in-Ok-None-clause-ends
returns-in-Ok-None-clause-ends c = λ bytes given left j spent.
    let gives = subst (λ o. EndsBy (Ok o) (lines_of bytes) given) c.in-Ok-None.field-0-is (c.in-Ok-None.ensures bytes given j) in
    answers_stop ending.End c.stop.result (progress c.stop.new.self) left bytes given c.stop.ensures.answer (spent, gives)

pub returns-in-Ok-Some-clause-ends : goal.returns-in-Ok-Some-clause-ends
returns-in-Ok-Some-clause-ends c = λ bytes given left j spent.
    let (brought, is, gives) = subst (λ o. EndsBy (Ok o) (lines_of bytes) given) c.in-Ok-Some.field-0-is (c.in-Ok-Some.ensures bytes given j) in
    (brought, is, inr (refl, spent, gives))

pub returns-in-Err-clause-ends : goal.returns-in-Err-clause-ends
returns-in-Err-clause-ends c = λ bytes given left j spent.
    let ends = subst (λ ending. Ends ending left bytes given) (sym c.of.ensures) (ends_failure c.in-Err.failure left bytes given spent (c.in-Err.ensures bytes given j)) in
    answers_stop c.of.result c.stop-in-Err.result (progress c.stop-in-Err.new.self) left bytes given c.stop-in-Err.ensures.answer ends
