use Rattle.std.proofs.Common.{◌∙◌}
use Rattle.px_prune.proofs.Pushed.{push-set, few}
use Rattle.px_prune.proofs.pushing.push.Goals as goal

pub from_vec-requires : goal.from_vec-requires
from_vec-requires c = record {
  rising =
      (push-set c.args.compiled.now.states c.args.label c.args.need.now c.in_ok-inside.inside.items c.ascending.result.items
      (few c.program.result.now c.args.compiled.now c.program.ensures.program c.sound.ensures.sound) c.in_ok-inside.ensures.members c.ascending.ensures.rises c.ascending.ensures.same).rising;
}

pub returns : goal.returns
returns c = record {
  pushed =
      c.from_vec.ensures.same
      ∙ (push-set c.args.compiled.now.states c.args.label c.args.need.now c.in_ok-inside.inside.items c.ascending.result.items
      (few c.program.result.now c.args.compiled.now c.program.ensures.program c.sound.ensures.sound) c.in_ok-inside.ensures.members c.ascending.ensures.rises c.ascending.ensures.same).is;
}
