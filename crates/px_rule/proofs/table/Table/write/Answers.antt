use Rattle.std.proofs.Common.{◌≡◌, ◌<◌, ℕ, eqb, subst, sym, ◌∙◌}
use prog.Atomic.{either}
use Rattle.atomic_table.specs.Table.{Allows}
use Rattle.px_rule.specs.declared.shape.Shape.{Shape}
use Rattle.px_rule.specs.declared.view.Place.TheVariants.{Inside}
use Rattle.px_rule.specs.Words.{place_at}
use Rattle.px_rule.specs.Rule.{Rule}
use Rattle.px_rule.specs.Steps.{Written, Shown, MayWrite}
use Rattle.px_rule.proofs.LookWrite.{puts}
use Rattle.px_rule.proofs.Bounds.{one_more}
use Rattle.px_rule.proofs.table.Table.write.Goals as goal

pub index-requires : goal.index-requires
index-requires g c = (c.requires.bank, c.requires.word.within)

pub compare_exchange-requires : goal.compare_exchange-requires
compare_exchange-requires g c =
    let z = c.args.self.now.words.shared.key in
    let k = c.args.bank in
    let p = c.args.place in
    let n = g.A.Aim.version in
    let w = c.args.word in
    let me = c.args.seat.now.me in
    let slots = c.args.self.now.words.shared.table_id.slots in
    let key = sym c.args.self.now.key_is in
    let below : k < z.banks = subst (λ (s : Shape). k < s.banks) key c.requires.bank in
    let R = Rule g.L.Law.who g.L.Law.legal g.L.Law.right z in
    let a = c.requires.aim in
    let may = subst (λ (x : Shape × ℕ). MayWrite g.L.Law.right x.0 x.1 n p w me.0) (λ i. (key i, a.0 i)) c.requires.word in
    let inside = subst (λ (b : ℕ). me.0.stay.place ≡ Inside b n) a.0 c.requires.inside in (
      c.requires.table,
      c.index.ensures.within,
      subst (λ (i : ℕ). Allows R slots c.args.seat.now.id me i (λ x. either (eqb x 0) w x) (λ x after. (Written g.A.Aim.bank n g.A.Aim.place g.A.Aim.word me.0 x after.0 × Shown g.L.Law.right g.A.Aim.shape g.A.Aim.bank n g.A.Aim.place me.0 x) × (after.1 ≡ me.1)))
          (sym (c.index.ensures.index ∙ one_more c.args.self.now.shape z k p key))
          (subst (λ (y : ℕ × ℕ × ℕ × Shape). Allows R slots c.args.seat.now.id me (place_at z k p) (λ x. either (eqb x 0) w x) (λ x after. (Written y.0 n y.1 y.2 me.0 x after.0 × Shown g.L.Law.right y.3 y.0 n y.1 me.0 x) × (after.1 ≡ me.1))) (λ i. (sym a.0 i, sym a.1 i, sym a.2 i, (sym key ∙ sym a.3) i))
          (puts g.L.Law.who g.L.Law.legal g.L.Law.right z g.L.Law.legal_short slots c.args.seat.now.id k n p w me inside c.requires.version g.L.Law.one_answer may below)),
    )
