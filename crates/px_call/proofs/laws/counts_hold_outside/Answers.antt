use Rattle.px_call.proofs.Outside.{moved}
use Rattle.px_call.proofs.Runs.{counts_of_run}
use Rattle.px_call.proofs.laws.counts_hold_outside.Goals as goal

pub returns : goal.returns
returns g c = record {
  moved = moved g.L.Law.right;
  run = λ z k n automata before began v after tally root. counts_of_run g.L.Law.right z k n automata v root before began after tally;
}
