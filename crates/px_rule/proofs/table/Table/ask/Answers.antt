use Rattle.std.proofs.Common.{refl, subst, sym}
use Rattle.atomic_table.specs.Table.{Splits}
use Rattle.px_rule.specs.Rule.{Rule}
use Rattle.px_rule.specs.Steps.{whole_asking, whole_note}
use Rattle.px_rule.proofs.SplitJoin.{asks}
use Rattle.px_rule.proofs.Bounds.{some_word}
use Rattle.px_rule.proofs.table.Table.ask.Goals as goal

pub split_seat-requires : goal.split_seat-requires
split_seat-requires g c =
    let z = c.args.self.now.words.shared.key in
    let v = c.args.pass.now.me.0 in
    let e = c.args.entry.now in (
      c.requires.table,
      some_word c.args.self.now.shape _ c.args.self.now.sized,
      subst (λ o. Splits (Rule g.L.Law.who g.L.Law.legal g.L.Law.right z) c.args.pass.now.id v (whole_asking o v) (whole_note o v)) (sym c.requires.entry)
          (asks g.L.Law.who g.L.Law.legal g.L.Law.right z c.args.pass.now.id v (g.L.Law.who e) e c.requires.pass refl c.requires.own),
    )
