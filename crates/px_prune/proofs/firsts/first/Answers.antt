use Rattle.std.proofs.Common.{◌∙◌}
use Rattle.px_prune.proofs.FirstSets.{first-set}
use Rattle.px_prune.proofs.firsts.first.Goals as goal

pub from_vec-requires : goal.from_vec-requires
from_vec-requires c = record {
  rising =
      (first-set c.args.program.now.states c.args.program.now.firsts c.in_ok-states.states.items c.ascending.result.items
      c.sound.ensures.sound.few c.sound.ensures.sound.paths c.in_ok-states.ensures.states c.ascending.ensures.rises c.ascending.ensures.same).rising;
}

pub returns : goal.returns
returns c = record {
  firsts =
      c.from_vec.ensures.same
      ∙ (first-set c.args.program.now.states c.args.program.now.firsts c.in_ok-states.states.items c.ascending.result.items
      c.sound.ensures.sound.few c.sound.ensures.sound.paths c.in_ok-states.ensures.states c.ascending.ensures.rises c.ascending.ensures.same).is;
}
