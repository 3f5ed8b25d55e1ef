use Rattle.std.proofs.Common.{◌≡◌, ◌+◌, ◌∙◌, refl, subst, sym, ap, arith}
use mathlib.Core.Option.{some}
use lib.ListN.{get_elem?}
use Rattle.px_rule.specs.Steps.{restood}
use Rattle.px_rule.specs.Table.{IsSeat, Seated}
use Rattle.px_rule.proofs.Seats.{same_place}
use Rattle.px_rule.proofs.shared.Shared.zero_step.Goals as goal

pub invariant_of-desk : goal.invariant_of-desk
invariant_of-desk g c =
    let seat = c.desk.inside in
    let v = seat.token.me.0 in
    let a = c.requires.built in
    let s = c.desk.invariant.1 in
    let there : get_elem? v.stay.stands c.args.bank ≡ some a.0 = ap (λ (x : Seated g.row.L-Entry.Denot). get_elem? x.view.stay.stands c.args.bank) c.desk.view_is ∙ a.1 in
    let told = c.zero.ensures.view in
    (told.1 ∙ c.desk.invariant.0, subst (IsSeat seat.shape seat.bank) (sym (told.0 a.0 there)) (same_place seat.shape seat.bank v (restood c.args.bank (record a.0 { zeroed = a.0.zeroed + 1 }) v) s refl refl refl refl (omega arith) s.alike.kept))
