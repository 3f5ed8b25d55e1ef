use Rattle.std.proofs.Common.{◌≡◌, true}
use Rattle.px_rule.specs.Table.{is_inside}
use Rattle.px_hub_rows.proofs.calls.last_of.Given as goal

abbrev pub invariant-loop-name : goal.invariant-loop-name
invariant-loop-name g l = (l.seat.table ≡ l.shared) × (is_inside l.seat.view.stay.place ≡ true)
