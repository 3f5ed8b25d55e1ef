use Rattle.std.proofs.Common.{◌≡◌, subst, sym, ◌∙◌}
use Rattle.atomic_table.specs.Table.{Allows}
use Rattle.px_rule.specs.declared.shape.Shape.{Shape}
use Rattle.px_rule.specs.Rule.{Rule}
use Rattle.px_rule.specs.Steps.{Loads}
use Rattle.px_rule.specs.Clauses.{Moment}
use Rattle.px_rule.proofs.LoadAccept.{loads}
use Rattle.px_rule.proofs.Bounds.{some_word}
use Rattle.px_rule.proofs.table.Table.load.Goals as goal

pub load-requires : goal.load-requires
load-requires g c =
    let z = c.args.self.now.words.shared.key in
    let me = c.args.seat.now.me in
    let slots = c.args.self.now.words.shared.table_id.slots in
    let aim = c.args.self.now.key_is ∙ sym c.requires.aim in (
      c.requires.table,
      some_word c.args.self.now.shape _ c.args.self.now.sized,
      subst (λ (s : Shape). Allows (Rule g.L.Law.who g.L.Law.legal g.L.Law.right z) slots c.args.seat.now.id me 0 (λ x. x) (λ x after. Loads g.L.Law.who g.L.Law.legal me.0 x after.0 × Moment g.L.Law.who g.L.Law.legal g.L.Law.right s me.0 x × (after.1 ≡ me.1))) aim
          (loads g.L.Law.who g.L.Law.legal g.L.Law.right z g.L.Law.legal_short slots c.args.seat.now.id me),
    )
