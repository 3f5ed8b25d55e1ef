use Rattle.std.proofs.Common.{◌∙◌, subst, sym, ap}
use Rattle.px_rule.specs.declared.view.View.{View}
use Rattle.px_rule.specs.Steps.{IsTold, IsMet, joined}
use Rattle.px_rule.specs.Table.{Seated, IsSeat}
use Rattle.px_rule.proofs.Joins.{met_known}
use Rattle.px_rule.proofs.Seats.{joined_seat}
use Rattle.px_rule.proofs.shared.Shared.join.Goals as goal

pub invariant_of-seat : goal.invariant_of-seat
invariant_of-seat g c =
    let seat = c.seat.inside in
    let me = c.join.ensures.view.1 in
    (ap (λ m. m.1) me ∙ c.seat.invariant.0, subst (IsSeat seat.shape seat.bank) (sym (ap (λ m. m.0) me)) (joined_seat seat.shape seat.bank seat.token.me.0 c.note.inside.token.me.0 c.seat.invariant.1))

pub returns-clause-met : goal.returns-clause-met
returns-clause-met g c pass =
    let E = g.row.L-Entry.Denot in
    let who = g.L.Law.who in
    let legal = g.L.Law.legal in
    let of_seat = ap (λ (s : Seated E). s.view) c.seat.view_is in
    let of_note = ap (λ (s : Seated E). s.view) c.note.view_is in
    let told = subst (λ (q : View E × View E). IsTold who legal (joined q.0 q.1)) (λ i. (of_seat i, of_note i)) c.join.ensures.told in
    let now = ap (λ m. m.0) c.join.ensures.view.1 ∙ (λ i. joined (of_seat i) (of_note i)) in
    subst (IsMet c.args.seat.now.view c.args.note.view) (sym now) (met_known who legal c.args.seat.now.view c.args.note.view pass told)
