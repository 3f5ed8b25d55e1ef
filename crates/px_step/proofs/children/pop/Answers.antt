use Rattle.std.proofs.Common.{◌∙◌}
use Rattle.px_step.proofs.Popped.{pop-set}
use Rattle.px_step.proofs.children.pop.Goals as goal

pub from_vec-requires : goal.from_vec-requires
from_vec-requires c = record {
  rising =
      (pop-set c.args.program.now.states c.args.label c.args.set.now c.in_ok-states.states.items c.ascending.result.items
      c.sound.ensures.sound.few c.in_ok-states.ensures.members c.ascending.ensures.rises c.ascending.ensures.same).rising;
}

pub returns : goal.returns
returns c = record {
  popped =
      c.from_vec.ensures.same
      ∙ (pop-set c.args.program.now.states c.args.label c.args.set.now c.in_ok-states.states.items c.ascending.result.items
      c.sound.ensures.sound.few c.in_ok-states.ensures.members c.ascending.ensures.rises c.ascending.ensures.same).is;
}
