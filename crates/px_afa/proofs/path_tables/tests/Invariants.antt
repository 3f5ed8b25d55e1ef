use Rattle.std.proofs.Common.{◌≡◌, map, take, Some}
use Rattle.px_afa.specs.Building.{newest}
use Rattle.px_afa.specs.Labels.{names_of}
use Rattle.px_afa.specs.PathKept.{met_of}
use Rattle.px_afa.proofs.path_tables.tests.Given as goal

abbrev pub invariant-loop-state : goal.invariant-loop-state
invariant-loop-state l = l.tests.items ≡ map (λ s. met_of (names_of (newest l.states)) (Some s)) (take l.state-index l.states)
