use Rattle.std.proofs.Common.{◌≡◌, ◌+◌, ◌&&◌, ℕ, length}
use Rattle.px_afa.specs.Labels.{names_of}
use Rattle.px_afa.specs.Lists.{row}
use Rattle.px_afa.specs.Building.{newest}
use Rattle.px_afa.specs.Sets.{numbers_where}
use Rattle.px_afa.specs.Truth.{state_at}
use Rattle.px_afa.specs.Tables as tables
use Rattle.px_afa.proofs.path_tables.exactly.Given as goal

abbrev pub invariant-loop-n : goal.invariant-loop-n
invariant-loop-n l = record {
  count : length l.groups ≡ 3 + length (names_of (newest l.states));
  rows : (label : ℕ) → row l.groups label ≡ numbers_where l.n (λ m. tables.is_unguarded (newest l.states) (state_at (newest l.states) m) && tables.tests_exactly (names_of (newest l.states)) label (state_at (newest l.states) m));
}
