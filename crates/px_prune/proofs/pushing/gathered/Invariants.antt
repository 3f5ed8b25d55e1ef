use Rattle.std.proofs.Common.{◌≡◌, ◌||◌, ℕ, take}
use Rattle.std.specs.List.{list_any}
use Rattle.px_text.specs.Sets.{has}
use Rattle.px_prune.specs.Needing.{is_met_need, is_lasting_need}
use Rattle.px_prune.proofs.pushing.gathered.Given as goal

abbrev pub invariant-loop-p : goal.invariant-loop-p
invariant-loop-p l = (k : ℕ) → has l.inside.items k ≡ list_any (λ p. is_met_need l.compiled.states l.label p k || is_lasting_need l.compiled.states l.label p k) (take l.p-index l.p-items)
