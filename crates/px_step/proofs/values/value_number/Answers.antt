use Rattle.std.proofs.Common.{◌∙◌}
use Rattle.px_step.proofs.TrueValues.{number-set}
use Rattle.px_step.proofs.values.value_number.Goals as goal

pub from_vec-requires : goal.from_vec-requires
from_vec-requires c = record {
  rising =
      (number-set c.args.program.now.states c.args.class c.in_ok-states.states.items c.ascending.result.items
      c.sound.ensures.sound.few c.in_ok-states.ensures.members c.ascending.ensures.rises c.ascending.ensures.same).rising;
}

pub returns : goal.returns
returns c = record {
  values =
      c.from_vec.ensures.same
      ∙ (number-set c.args.program.now.states c.args.class c.in_ok-states.states.items c.ascending.result.items
      c.sound.ensures.sound.few c.in_ok-states.ensures.members c.ascending.ensures.rises c.ascending.ensures.same).is;
}
