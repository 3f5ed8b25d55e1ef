use Rattle.std.proofs.Common.{◌≡◌, true}
use Rattle.px_rule.specs.Table.{is_inside}
use Rattle.px_intern.proofs.timing.put_steps.Given as goal

abbrev pub invariant-loop-class : goal.invariant-loop-class
invariant-loop-class l = (l.seat.table ≡ l.shared) × (is_inside l.seat.view.stay.place ≡ true)
