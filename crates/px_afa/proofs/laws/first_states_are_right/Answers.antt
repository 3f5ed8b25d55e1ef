use Rattle.std.proofs.Common.{[]}
use Rattle.px_xpath.specs.Histories.{live}
use Rattle.px_afa.proofs.FirstStates.{filters-match}
use Rattle.px_afa.proofs.laws.first_states_are_right.Goals as goal

pub returns-clause-live : goal.returns-clause-live
returns-clause-live c = λ live root. filters-match live [] tt root

pub returns-clause-behind : goal.returns-clause-behind
returns-clause-behind c = λ history root. filters-match (live history) [] tt root
