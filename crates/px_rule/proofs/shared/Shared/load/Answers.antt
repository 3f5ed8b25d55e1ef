use Rattle.std.proofs.Common.{◌∙◌, refl, subst, sym, arith}
use Rattle.px_rule.specs.Steps.{loaded}
use Rattle.px_rule.specs.Table.{IsSeat}
use Rattle.px_rule.proofs.Seats.{same_place}
use Rattle.px_rule.proofs.shared.Shared.load.Goals as goal

pub invariant_of-seat : goal.invariant_of-seat
invariant_of-seat g c =
    let seat = c.seat.inside in
    let v = seat.token.me.0 in
    let told = c.load.ensures.told in
    let s = c.seat.invariant.1 in
    (told.2 ∙ c.seat.invariant.0, subst (IsSeat seat.shape seat.bank) (sym told.0.0) (same_place seat.shape seat.bank v (record v { past = loaded v.past c.load.result }) s refl refl refl refl (omega arith) s.alike.kept))
