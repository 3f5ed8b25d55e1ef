use Rattle.std.specs.Prelude.{take}
use Rattle.std.proofs.Common.{◌≡◌, ◌<◌, ◌∙◌, ℕ, true, false, refl, subst, sym, ap, arith}
use Rattle.px_rule.specs.declared.shape.Shape.{Shape}
use Rattle.px_rule.specs.declared.view.Place.TheVariants.{Inside}
use Rattle.px_rule.specs.declared.view.Stay.{Stay}
use Rattle.px_rule.specs.declared.view.View.{View}
use Rattle.px_rule.specs.Steps.{Written, written, Shown, MayWrite}
use Rattle.px_rule.specs.Kept.{Sound}
use Rattle.px_rule.specs.Table.{Seated, TableName, IsSeat, is_inside, bank_in, version_in}
use Rattle.px_rule.proofs.Seats.{inside_of, same_place}
use Rattle.px_rule.proofs.Sounds.{sound_write}
use Rattle.px_rule.proofs.shared.Shared.write_step.Goals as goal

pub write-requires-clause-bank : goal.write-requires-clause-bank
write-requires-clause-bank g c =
    let seat = c.seat.inside in
    let shape : seat.shape ≡ c.self.inside.table.shape = ap (λ (s : Seated g.row.L-Entry.Denot). s.table.shape) c.seat.view_is ∙ (ap (λ (t : TableName). t.shape) c.requires.table ∙ sym (ap (λ (t : TableName). t.shape) c.self.view_is)) in
    let b = inside_of seat.shape seat.bank seat.token.me.0 c.seat.invariant.1 (ap (λ (s : Seated g.row.L-Entry.Denot). is_inside s.view.stay.place) c.seat.view_is ∙ c.requires.inside) in
    subst (λ (z : Shape). seat.bank < z.banks) shape b.2

pub write-requires-clause-inside : goal.write-requires-clause-inside
write-requires-clause-inside g c =
    let seat = c.seat.inside in
    let v = seat.token.me.0 in
    let b = inside_of seat.shape seat.bank v c.seat.invariant.1 (ap (λ (s : Seated g.row.L-Entry.Denot). is_inside s.view.stay.place) c.seat.view_is ∙ c.requires.inside) in
    b.0 ∙ ap (λ (k : ℕ). Inside k (version_in v.stay.place)) (sym b.1)

pub write-requires-clause-word : goal.write-requires-clause-word
write-requires-clause-word g c =
    let seat = c.seat.inside in
    let v = seat.token.me.0 in
    let b = inside_of seat.shape seat.bank v c.seat.invariant.1 (ap (λ (s : Seated g.row.L-Entry.Denot). is_inside s.view.stay.place) c.seat.view_is ∙ c.requires.inside) in
    let view = ap (λ (s : Seated g.row.L-Entry.Denot). s.view) c.seat.view_is in
    let shape = ap (λ (t : TableName). t.shape) c.self.view_is in
    subst (λ (k : ℕ). MayWrite g.L.Law.right c.self.inside.table.shape k (version_in v.stay.place) c.args.place c.args.word v) (sym b.1)
    (subst (λ (q : Shape × View g.row.L-Entry.Denot). MayWrite g.L.Law.right q.0 (bank_in q.1.stay.place) (version_in q.1.stay.place) c.args.place c.args.word q.1) (λ i. (sym shape i, sym view i)) c.requires.word)

pub invariant_of-seat : goal.invariant_of-seat
invariant_of-seat g c =
    let seat = c.seat.inside in
    let v = seat.token.me.0 in
    let s = c.seat.invariant.1 in
    let b = inside_of seat.shape seat.bank v s (ap (λ (s : Seated g.row.L-Entry.Denot). is_inside s.view.stay.place) c.seat.view_is ∙ c.requires.inside) in
    let told = c.write.ensures.view in (
      told.1 ∙ c.seat.invariant.0,
      subst (IsSeat seat.shape seat.bank) (sym told.0.0)
          (same_place seat.shape seat.bank v (record v { touch = written seat.bank (version_in v.stay.place) c.args.place c.args.word c.write.result v.touch }) s refl refl refl refl (omega arith) (λ none. absurd (let e : true ≡ false = sym b.4 ∙ none in cc))),
    )

pub returns-clause-view : goal.returns-clause-view
returns-clause-view g c =
    let seat = c.seat.inside in
    let v = seat.token.me.0 in
    let after = c.write.new.seat.me.0 in
    let x = c.write.result in
    let b = inside_of seat.shape seat.bank v c.seat.invariant.1 (ap (λ (s : Seated g.row.L-Entry.Denot). is_inside s.view.stay.place) c.seat.view_is ∙ c.requires.inside) in
    subst (λ (u : View g.row.L-Entry.Denot). Written (bank_in u.stay.place) (version_in u.stay.place) c.args.place c.args.word u x after) (ap (λ (s : Seated g.row.L-Entry.Denot). s.view) c.seat.view_is)
    (subst (λ (k : ℕ). Written k (version_in v.stay.place) c.args.place c.args.word v x after) b.1 c.write.ensures.view.0.0)

pub returns-clause-shown : goal.returns-clause-shown
returns-clause-shown g c =
    let seat = c.seat.inside in
    let v = seat.token.me.0 in
    let x = c.write.result in
    let p = c.args.place in
    let b = inside_of seat.shape seat.bank v c.seat.invariant.1 (ap (λ (s : Seated g.row.L-Entry.Denot). is_inside s.view.stay.place) c.seat.view_is ∙ c.requires.inside) in
    let view = ap (λ (s : Seated g.row.L-Entry.Denot). s.view) c.seat.view_is in
    let shape = ap (λ (t : TableName). t.shape) c.self.view_is in
    subst (λ (q : Shape × View g.row.L-Entry.Denot). Shown g.L.Law.right q.0 (bank_in q.1.stay.place) (version_in q.1.stay.place) p q.1 x) (λ i. (shape i, view i))
    (subst (λ (k : ℕ). Shown g.L.Law.right c.self.inside.table.shape k (version_in v.stay.place) p v x) b.1 c.write.ensures.view.0.1)

pub returns-clause-sound : goal.returns-clause-sound
returns-clause-sound g c =
    let z = c.args.self.now.shape in
    let v = c.args.seat.now.view in
    let w = c.write.new.seat.me.0 in
    let told = returns-clause-view g c in
    subst (λ (q : Stay). Sound g.L.Law.right z (bank_in q.place) (version_in q.place) w) (sym (ap (λ (a : View g.row.L-Entry.Denot). a.stay) told))
    (sound_write g.L.Law.right z (bank_in v.stay.place) (version_in v.stay.place) c.args.place c.args.word c.write.result v w (g.L.Law.one_answer (take (version_in v.stay.place) v.past.seen)) c.requires.word told (returns-clause-shown g c))
