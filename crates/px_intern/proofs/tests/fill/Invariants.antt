use Rattle.std.proofs.Common.{◌≡◌, true}
use Rattle.px_rule.specs.Table.{is_inside}
use Rattle.px_intern.proofs.tests.fill.Given as goal

abbrev pub invariant-loop-state : goal.invariant-loop-state
invariant-loop-state g l = (l.seat.table ≡ l.shared) × (is_inside l.seat.view.stay.place ≡ true)
