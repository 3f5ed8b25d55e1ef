use Rattle.std.proofs.Common.{◌≡◌, ℕ, length}
use Rattle.px_afa.specs.Lists.{row}
use Rattle.px_afa.specs.Building.{newest}
use Rattle.px_afa.specs.Sets.{numbers_where}
use Rattle.px_afa.specs.Truth.{state_at}
use Rattle.px_afa.specs.Tables as tables
use Rattle.px_afa.proofs.path_tables.guarded.Given as goal

abbrev pub invariant-loop-n : goal.invariant-loop-n
invariant-loop-n l = record {
  count : length l.groups ≡ length l.states;
  rows : (guard : ℕ) → row l.groups guard ≡ numbers_where l.n (λ m. tables.is_guarded_by (newest l.states) guard (state_at (newest l.states) m));
}
