-- The laws of the machine over lines.
use Rattle.px_reader.specs.Spelling.{kinds}
use Rattle.px_reader.proofs.MachineLaws.{spelt_accepted}
use Rattle.px_reader.proofs.Begins.{begins_iff}
use Rattle.px_reader.proofs.laws.machine_is_right.Goals as goal

pub returns-clause-begins : goal.returns-clause-begins
returns-clause-begins c = begins_iff

pub returns-clause-spells : goal.returns-clause-spells
returns-clause-spells c = λ lines root d. spelt_accepted (kinds lines) root d
