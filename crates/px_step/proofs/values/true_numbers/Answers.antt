use Rattle.px_step.proofs.TrueValues.{numbers-have}
use Rattle.px_step.proofs.values.true_numbers.Goals as goal

pub returns : goal.returns
returns c = record {
  members =
      numbers-have c.args.program.now.states c.args.class c.new-states.result.items c.add_true.new.states.items c.add_true-2.new.states.items c.add_true-3.new.states.items
      c.add_true-4.new.states.items c.add_true-5.new.states.items c.add_true-6.new.states.items
      c.new-states.ensures.items c.in_ok-add_true.ensures.added c.in_ok-add_true-2.ensures.added c.in_ok-add_true-3.ensures.added
      c.in_ok-add_true-4.ensures.added c.in_ok-add_true-5.ensures.added c.in_ok-add_true-6.ensures.added;
}
