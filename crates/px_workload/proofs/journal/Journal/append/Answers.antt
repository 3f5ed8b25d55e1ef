use Rattle.std.proofs.Common.{◌∷◌, ◌++◌, [], sym, subst, arith}
use Rattle.px_workload.specs.Accepted.{Accepted}
use Rattle.px_workload.proofs.Standing.{comes-next, stands-next}
use Rattle.px_xpath.specs.Histories.{IsLegal}
use Rattle.px_workload.specs.Changes.{history}
use Rattle.px_workload.proofs.journal.Journal.append.Goals as goal

pub take-requires-clause-names_live : goal.take-requires-clause-names_live
take-requires-clause-names_live c =
    let P : Accepted → Type 0 = λ a. IsLegal (history (a.changes ++ c.args.change ∷ [])) in
    (comes-next c.self.inside.past.changes c.self.inside.table.slots.items c.args.change c.self.invariant (subst P (sym c.self.view_is) c.requires.legal)).0

pub take-requires-clause-small : goal.take-requires-clause-small
take-requires-clause-small c =
    let P : Accepted → Type 0 = λ a. IsLegal (history (a.changes ++ c.args.change ∷ [])) in
    (comes-next c.self.inside.past.changes c.self.inside.table.slots.items c.args.change c.self.invariant (subst P (sym c.self.view_is) c.requires.legal)).1

pub invariant_of-self : goal.invariant_of-self
invariant_of-self c =
    let P : Accepted → Type 0 = λ a. IsLegal (history (a.changes ++ c.args.change ∷ [])) in
    rw c.with-self-inside.ensures
    (stands-next c.self.inside.past.changes c.self.inside.table.slots.items c.take.new.self.slots.items c.args.change c.self.invariant
    (subst P (sym c.self.view_is) c.requires.legal) c.take.ensures.listed (omega (arith, c.take.ensures.len)))
