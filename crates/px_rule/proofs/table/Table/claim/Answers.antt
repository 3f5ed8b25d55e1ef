use Rattle.std.proofs.Common.{◌≡◌, ◌<◌, ℕ, eqb, suc, subst, sym, add-one}
use prog.Atomic.{either}
use Rattle.atomic_table.specs.Table.{Allows}
use Rattle.px_rule.specs.declared.shape.Shape.{Shape}
use Rattle.px_rule.specs.Words.{packed}
use Rattle.px_rule.specs.Rule.{Rule}
use Rattle.px_rule.specs.Steps.{Claims}
use Rattle.px_rule.proofs.BankSteps.{claims}
use Rattle.px_rule.proofs.Bounds.{bank_within}
use Rattle.px_rule.proofs.table.Table.claim.Goals as goal

pub compare_exchange-requires : goal.compare_exchange-requires
compare_exchange-requires g c =
    let z = c.args.self.now.words.shared.key in
    let k = c.args.bank in
    let me = c.args.desk.now.me in
    let slots = c.args.self.now.words.shared.table_id.slots in
    let below : k < z.banks = subst (λ (s : Shape). k < s.banks) (sym c.args.self.now.key_is) c.requires.bank in
    let R = Rule g.L.Law.who g.L.Law.legal g.L.Law.right z in
    let a = c.requires.stand in
    let m = c.requires.aim in (
      c.requires.table,
      bank_within k c.args.self.now.shape _ c.args.self.now.sized c.requires.bank,
      subst (λ (y : ℕ × ℕ × ℕ). Allows R slots c.args.desk.now.id me y.0 (λ x. either (eqb x y.1) y.2 x) (λ x after. Claims g.A.Aim.bank g.A.Aim.old g.A.Aim.version me.0 x after.0 × (after.1 ≡ me.1)))
          (λ i. (sym (add-one k) i, sym c.free_word.ensures i, sym c.built_word.ensures i))
          (subst (λ (y : ℕ × ℕ × ℕ). Allows R slots c.args.desk.now.id me (suc k) (λ x. either (eqb x (packed c.args.old 0 0)) (packed c.args.new 1 0) x) (λ x after. Claims y.0 y.1 y.2 me.0 x after.0 × (after.1 ≡ me.1))) (λ i. (sym m.0 i, sym m.1 i, sym m.2 i))
          (claims g.L.Law.who g.L.Law.legal g.L.Law.right z g.L.Law.legal_short slots c.args.desk.now.id k c.args.old c.args.new me a.0 c.requires.desk a.1 a.2 a.3 c.requires.none_built c.requires.new.0 c.requires.new.1 below)),
    )
