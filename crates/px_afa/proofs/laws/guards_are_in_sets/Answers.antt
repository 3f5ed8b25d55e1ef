use Rattle.px_afa.proofs.Guards.{guard-in, body-guard-in}
use Rattle.px_afa.proofs.laws.guards_are_in_sets.Goals as goal

pub returns-clause-body : goal.returns-clause-body
returns-clause-body c = body-guard-in

pub returns-clause-guard : goal.returns-clause-guard
returns-clause-guard c = guard-in
