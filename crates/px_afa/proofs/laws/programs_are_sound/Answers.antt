use Rattle.std.proofs.Common.{[], arith}
use Rattle.px_afa.proofs.Sizes.{filters-few}
use Rattle.px_afa.proofs.Soundness.{automata-sound}
use Rattle.px_afa.proofs.laws.programs_are_sound.Goals as goal

pub returns-clause-states : goal.returns-clause-states
returns-clause-states c = λ live proper. let few = filters-few live [] proper in omega arith

pub returns-clause-sound : goal.returns-clause-sound
returns-clause-sound c = automata-sound
