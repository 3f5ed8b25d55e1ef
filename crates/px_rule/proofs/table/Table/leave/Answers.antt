use Rattle.std.proofs.Common.{◌≡◌, ◌<◌, ◌%◌, ◌+◌, ◌-◌, ◌^◌, ℕ, subst, sym, add-one}
use Rattle.atomic_table.specs.Table.{Allows}
use Rattle.px_rule.specs.declared.shape.Shape.{Shape}
use Rattle.px_rule.specs.Rule.{Rule}
use Rattle.px_rule.specs.Steps.{Leaves}
use Rattle.px_rule.proofs.BankSteps.{leaves}
use Rattle.px_rule.proofs.Bounds.{bank_within}
use Rattle.px_rule.proofs.table.Table.leave.Goals as goal

pub fetch_sub-requires : goal.fetch_sub-requires
fetch_sub-requires g c =
    let z = c.args.self.now.words.shared.key in
    let k = c.args.bank in
    let me = c.args.seat.now.me in
    let slots = c.args.self.now.words.shared.table_id.slots in
    let below : k < z.banks = subst (λ (s : Shape). k < s.banks) (sym c.args.self.now.key_is) c.requires.bank in (
      c.requires.table,
      bank_within k c.args.self.now.shape _ c.args.self.now.sized c.requires.bank,
      subst (λ (i : ℕ). Allows (Rule g.L.Law.who g.L.Law.legal g.L.Law.right z) slots c.args.seat.now.id me i (λ x. (x + (2 ^ 64 - 1)) % 2 ^ 64) (λ x after. Leaves me.0 after.0 × (after.1 ≡ me.1))) (sym (add-one k))
          (leaves g.L.Law.who g.L.Law.legal g.L.Law.right z g.L.Law.legal_short slots c.args.seat.now.id k me c.requires.pass c.requires.is_in below),
    )
