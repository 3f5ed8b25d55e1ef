use Rattle.px_text.specs.Sets.{has}
use Rattle.px_step.specs.Popping.{is_given}
use Rattle.px_step.proofs.Popped.{guarded_added}
use Rattle.px_step.proofs.children.add_guarded.Goals as goal

pub loop-guard-preserved : goal.loop-guard-preserved
loop-guard-preserved c =
    guarded_added c.args.program.now.states (is_given c.args.program.now.states c.args.label (has c.args.set.now)) c.as_slice-guard-items.result.now c.loop-guard.guard-index
    c.args.given.now.items c.loop-guard.given.items c.add_given.new.given.items c.guarded_by.result.now c.loop-guard-test.true c.guarded_by.ensures.all c.loop-guard.invariant c.in_ok-add_given.ensures.added
