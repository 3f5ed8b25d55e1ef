use Rattle.std.proofs.Common.{◌≡◌, ◌<◌, ℕ, subst, sym, ◌∙◌}
use Rattle.atomic_table.specs.Table.{Allows}
use Rattle.px_rule.specs.declared.shape.Shape.{Shape}
use Rattle.px_rule.specs.declared.view.Place.TheVariants.{Inside}
use Rattle.px_rule.specs.Words.{size_of, place_at}
use Rattle.px_rule.specs.Rule.{Rule}
use Rattle.px_rule.specs.Steps.{Looked, Shown}
use Rattle.px_rule.proofs.LookWrite.{looks}
use Rattle.px_rule.proofs.Bounds.{one_more}
use Rattle.px_rule.proofs.table.Table.look.Goals as goal

pub load-requires : goal.load-requires
load-requires g c =
    let z = c.args.self.now.words.shared.key in
    let k = c.args.bank in
    let p = c.args.place in
    let n = g.A.Aim.version in
    let me = c.args.seat.now.me in
    let slots = c.args.self.now.words.shared.table_id.slots in
    let key = sym c.args.self.now.key_is in
    let within : p < size_of z = subst (λ (s : Shape). p < size_of s) key c.requires.place in
    let R = Rule g.L.Law.who g.L.Law.legal g.L.Law.right z in
    let a = c.requires.aim in
    let inside = subst (λ (b : ℕ). me.0.stay.place ≡ Inside b n) a.0 c.requires.inside in (
      c.requires.table,
      c.index.ensures.within,
      subst (λ (i : ℕ). Allows R slots c.args.seat.now.id me i (λ x. x) (λ x after. (Looked g.A.Aim.bank n g.A.Aim.place me.0 x after.0 × Shown g.L.Law.right g.A.Aim.shape g.A.Aim.bank n g.A.Aim.place me.0 x) × (after.1 ≡ me.1)))
          (sym (c.index.ensures.index ∙ one_more c.args.self.now.shape z k p key))
          (subst (λ (y : ℕ × ℕ × Shape). Allows R slots c.args.seat.now.id me (place_at z k p) (λ x. x) (λ x after. (Looked y.0 n y.1 me.0 x after.0 × Shown g.L.Law.right y.2 y.0 n y.1 me.0 x) × (after.1 ≡ me.1))) (λ i. (sym a.0 i, sym a.1 i, (sym key ∙ sym a.2) i))
          (looks g.L.Law.who g.L.Law.legal g.L.Law.right z g.L.Law.legal_short slots c.args.seat.now.id k n p me inside c.requires.version within)),
    )
