use Rattle.std.proofs.Common.{◌∙◌, Some, refl, subst, sym, ap, arith}
use Rattle.px_rule.specs.Steps.{whole_asking}
use Rattle.px_rule.specs.Table.{IsSeat}
use Rattle.px_rule.proofs.Seats.{same_place}
use Rattle.px_rule.proofs.shared.Shared.ask.Goals as goal

pub invariant_of-pass : goal.invariant_of-pass
invariant_of-pass g c =
    let seat = c.pass.inside in
    let v = seat.token.me.0 in
    let me = c.ask.ensures.pass.1 in
    let s = c.pass.invariant.1 in
    (ap (λ m. m.1) me ∙ c.pass.invariant.0, subst (IsSeat seat.shape seat.bank) (sym (ap (λ m. m.0) me)) (same_place seat.shape seat.bank v (whole_asking (Some c.args.entry.now) v) s refl refl refl refl (omega arith) s.alike.kept))
