use Rattle.std.proofs.Common.{◌≡◌, ◌-◌, ◌++◌, ℕ, List, length}
use Rattle.px_rule.specs.Table.{bank_in, version_in}
use Rattle.px_rule.specs.Kept.{Grew, Sound}
use Rattle.px_intern.proofs.Tails.{Named}
use Rattle.px_intern.proofs.sets.elements_of_set.Given as goal

abbrev pub invariant-loop-rest : goal.invariant-loop-rest
invariant-loop-rest g l = (let R = g.L.Law.right in let z = l.shared.shape in let u = l.initial.seat.view in let v = l.seat.view in let k = bank_in u.stay.place in let n = version_in u.stay.place in
    (l.seat.table ≡ l.initial.seat.table) × Grew u v × Sound R z k n v × (v.touch.wrote ≡ u.touch.wrote)
    × ((xs : List ℕ) × (ys : List ℕ) × (xs ≡ l.elements.items ++ ys) × Named R z k n u l.fn.number xs × Named R z k n v l.rest ys))

abbrev pub decreases-loop-rest : goal.decreases-loop-rest
decreases-loop-rest g l = 1048576 - length l.elements.items
