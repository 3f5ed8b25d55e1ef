use Rattle.std.proofs.Common.{◌≡◌, ℕ, [], ◌∷◌, length, take}
use Rattle.px_afa.specs.Lists.{row}
use Rattle.px_afa.specs.Sets.{accept}
use Rattle.px_afa.proofs.first_ids.ids_by_first.Given as goal

abbrev pub invariant-loop-first : goal.invariant-loop-first
invariant-loop-first l = record {
  count : length l.ids ≡ length l.states;
  rows : (state : ℕ) → row l.ids state ≡ accept (take l.first-index l.firsts) (state ∷ []);
}
