use Rattle.std.proofs.Common.{◌≡◌, ◌<◌, ◌≤◌, ℕ, suc, subst, sym, add-one, bit_and}
use Rattle.atomic_table.specs.Table.{Allows}
use Rattle.px_rule.specs.declared.shape.Shape.{Shape}
use Rattle.px_rule.specs.Words.{mask, size_of}
use Rattle.px_rule.specs.Rule.{Rule}
use Rattle.px_rule.specs.Steps.{Published}
use Rattle.px_rule.proofs.BankSteps.{publishes}
use Rattle.px_rule.proofs.Bounds.{bank_within}
use Rattle.px_rule.proofs.table.Table.publish.Goals as goal

pub fetch_and-requires : goal.fetch_and-requires
fetch_and-requires g c =
    let z = c.args.self.now.words.shared.key in
    let k = c.args.bank in
    let me = c.args.desk.now.me in
    let slots = c.args.self.now.words.shared.table_id.slots in
    let a = c.requires.built in
    let key = sym c.args.self.now.key_is in
    let below : k < z.banks = subst (λ (s : Shape). k < s.banks) key c.requires.bank in
    let all_zero : size_of z ≤ a.0.zeroed = subst (λ (s : Shape). size_of s ≤ a.0.zeroed) key a.3 in
    let R = Rule g.L.Law.who g.L.Law.legal g.L.Law.right z in (
      c.requires.table,
      bank_within k c.args.self.now.shape _ c.args.self.now.sized c.requires.bank,
      subst (λ (i : ℕ). Allows R slots c.args.desk.now.id me i (λ x. bit_and x mask) (λ x after. Published g.A.Aim.bank me.0 after.0 × (after.1 ≡ me.1))) (sym (add-one k))
          (subst (λ (y : ℕ). Allows R slots c.args.desk.now.id me (suc k) (λ x. bit_and x mask) (λ x after. Published y me.0 after.0 × (after.1 ≡ me.1))) (sym c.requires.aim)
          (publishes g.L.Law.who g.L.Law.legal g.L.Law.right z g.L.Law.legal_short slots c.args.desk.now.id k me a.0 c.requires.desk a.1 a.2 all_zero below)),
    )
