use Rattle.px_step.proofs.Popped.{pop-has}
use Rattle.px_step.proofs.children.gathered.Goals as goal

pub returns : goal.returns
returns c = record {
  members =
      pop-has c.args.program.now.states c.args.label c.args.set.now c.unguarded_exactly.result.now c.unguarded_loosely.result.now
      c.new-given.result.items c.add_guarded.new.given.items c.add_given.new.given.items c.add_given-2.new.given.items c.add_lasting.new.given.items
      c.unguarded_exactly.ensures.all c.unguarded_loosely.ensures.all c.new-given.ensures.items
      c.in_ok-add_guarded.ensures.added c.in_ok-add_given.ensures.added c.in_ok-add_given-2.ensures.added c.in_ok-add_lasting.ensures.added;
}
