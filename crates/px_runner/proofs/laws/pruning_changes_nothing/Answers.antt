use Rattle.px_runner.proofs.AcceptedIds.{accepted-all}
use Rattle.px_runner.proofs.laws.pruning_changes_nothing.Goals as goal

pub returns : goal.returns
returns c = record { same = accepted-all }
