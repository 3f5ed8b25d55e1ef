use Rattle.std.proofs.Common.{◌≡◌, ◌<◌, ◌%◌, ◌+◌, ◌^◌, ℕ, suc, subst, sym, add-one}
use Rattle.atomic_table.specs.Table.{Allows}
use Rattle.px_rule.specs.declared.shape.Shape.{Shape}
use Rattle.px_rule.specs.Rule.{Rule}
use Rattle.px_rule.specs.Steps.{Enters}
use Rattle.px_rule.proofs.BankSteps.{enters}
use Rattle.px_rule.proofs.Bounds.{bank_within}
use Rattle.px_rule.proofs.table.Table.enter.Goals as goal

pub fetch_add-requires : goal.fetch_add-requires
fetch_add-requires g c =
    let z = c.args.self.now.words.shared.key in
    let k = c.args.bank in
    let me = c.args.seat.now.me in
    let slots = c.args.self.now.words.shared.table_id.slots in
    let below : k < z.banks = subst (λ (s : Shape). k < s.banks) (sym c.args.self.now.key_is) c.requires.bank in
    let R = Rule g.L.Law.who g.L.Law.legal g.L.Law.right z in (
      c.requires.table,
      bank_within k c.args.self.now.shape _ c.args.self.now.sized c.requires.bank,
      subst (λ (i : ℕ). Allows R slots c.args.seat.now.id me i (λ x. (x + 1) % 2 ^ 64) (λ x after. Enters g.A.Aim.bank g.A.Aim.version me.0 x after.0 × (after.1 ≡ me.1))) (sym (add-one k))
          (subst (λ (y : ℕ × ℕ). Allows R slots c.args.seat.now.id me (suc k) (λ x. (x + 1) % 2 ^ 64) (λ x after. Enters y.0 y.1 me.0 x after.0 × (after.1 ≡ me.1))) (λ i. (sym c.requires.aim.0 i, sym c.requires.aim.1 i))
          (enters g.L.Law.who g.L.Law.legal g.L.Law.right z g.L.Law.legal_short slots c.args.seat.now.id k c.args.version me c.requires.pass c.requires.outside below)),
    )
