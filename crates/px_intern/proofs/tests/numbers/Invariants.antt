use Rattle.std.proofs.Common.{◌≡◌, true}
use Rattle.px_rule.specs.Table.{is_inside}
use Rattle.px_intern.proofs.tests.numbers.Given as goal

abbrev pub invariant-loop-turn : goal.invariant-loop-turn
invariant-loop-turn l = (l.seat.table ≡ l.shared) × (is_inside l.seat.view.stay.place ≡ true)
