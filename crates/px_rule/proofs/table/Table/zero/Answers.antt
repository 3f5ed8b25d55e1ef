use Rattle.std.proofs.Common.{◌≡◌, ◌<◌, ℕ, subst, sym, ◌∙◌}
use Rattle.atomic_table.specs.Table.{Allows}
use Rattle.px_rule.specs.declared.shape.Shape.{Shape}
use Rattle.px_rule.specs.Words.{size_of, place_at}
use Rattle.px_rule.specs.Rule.{Rule}
use Rattle.px_rule.specs.Steps.{Zeroed}
use Rattle.px_rule.proofs.BankSteps.{zeroes}
use Rattle.px_rule.proofs.Bounds.{one_more}
use Rattle.px_rule.proofs.table.Table.zero.Goals as goal

pub store-requires : goal.store-requires
store-requires g c =
    let z = c.args.self.now.words.shared.key in
    let k = c.args.bank in
    let p = c.args.place in
    let me = c.args.desk.now.me in
    let slots = c.args.self.now.words.shared.table_id.slots in
    let key = sym c.args.self.now.key_is in
    let below : k < z.banks = subst (λ (s : Shape). k < s.banks) key c.requires.bank in
    let within : p < size_of z = subst (λ (s : Shape). p < size_of s) key c.requires.place in
    let R = Rule g.L.Law.who g.L.Law.legal g.L.Law.right z in
    let a = c.requires.built in (
      c.requires.table,
      c.index.ensures.within,
      subst (λ (i : ℕ). Allows R slots c.args.desk.now.id me i (λ _. 0) (λ _ after. Zeroed g.A.Aim.bank me.0 after.0 × (after.1 ≡ me.1)))
          (sym (c.index.ensures.index ∙ one_more c.args.self.now.shape z k p key))
          (subst (λ (y : ℕ). Allows R slots c.args.desk.now.id me (place_at z k p) (λ _. 0) (λ _ after. Zeroed y me.0 after.0 × (after.1 ≡ me.1))) (sym c.requires.aim)
          (zeroes g.L.Law.who g.L.Law.legal g.L.Law.right z g.L.Law.legal_short slots c.args.desk.now.id k p me a.0 c.requires.desk a.1 a.2 a.3 within below)),
    )
