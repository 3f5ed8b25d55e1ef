use Rattle.std.proofs.Common.{◌≡◌, ◌&&◌}
use Rattle.px_afa.specs.Building.{newest}
use Rattle.px_afa.specs.Sets.{numbers_where}
use Rattle.px_afa.specs.Truth.{state_at}
use Rattle.px_afa.specs.Tables as tables
use Rattle.px_afa.proofs.path_tables.any_attributes.Given as goal

abbrev pub invariant-loop-n : goal.invariant-loop-n
invariant-loop-n l = l.found.items ≡ numbers_where l.n (λ m. tables.is_unguarded (newest l.states) (state_at (newest l.states) m) && tables.tests_any_attribute (state_at (newest l.states) m))
