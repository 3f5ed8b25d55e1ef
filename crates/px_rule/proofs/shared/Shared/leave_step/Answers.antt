use Rattle.std.proofs.Common.{◌≡◌, ◌<◌, ◌∙◌, subst, sym, ap}
use Rattle.px_rule.specs.declared.shape.Shape.{Shape}
use Rattle.px_rule.specs.Table.{Seated, TableName, is_in}
use Rattle.px_rule.proofs.Seats.{in_bank_of}
use Rattle.px_rule.proofs.shared.Shared.leave_step.Goals as goal

pub leave-requires-clause-bank : goal.leave-requires-clause-bank
leave-requires-clause-bank g c =
    let seat = c.seat.inside in
    let shape : seat.shape ≡ c.self.inside.table.shape = ap (λ (s : Seated g.row.L-Entry.Denot). s.table.shape) c.seat.view_is ∙ (ap (λ (t : TableName). t.shape) c.requires.table ∙ sym (ap (λ (t : TableName). t.shape) c.self.view_is)) in
    let within = in_bank_of seat.shape seat.bank seat.token.me.0 c.seat.invariant.1 (ap (λ (s : Seated g.row.L-Entry.Denot). is_in s.view.stay.place) c.seat.view_is ∙ c.requires.is_in) in
    subst (λ (z : Shape). seat.bank < z.banks) shape within.2

pub leave-requires-clause-is_in : goal.leave-requires-clause-is_in
leave-requires-clause-is_in g c =
    let seat = c.seat.inside in
    (in_bank_of seat.shape seat.bank seat.token.me.0 c.seat.invariant.1 (ap (λ (s : Seated g.row.L-Entry.Denot). is_in s.view.stay.place) c.seat.view_is ∙ c.requires.is_in)).1
