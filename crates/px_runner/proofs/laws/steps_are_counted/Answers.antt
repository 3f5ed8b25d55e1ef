use Rattle.px_runner.proofs.Taken.{steps_are}
use Rattle.px_runner.proofs.laws.steps_are_counted.Goals as goal

pub returns : goal.returns
returns g c = record { count = steps_are g.M.Memo.automata g.M.Memo.stands_for g.M.Memo.tells }
