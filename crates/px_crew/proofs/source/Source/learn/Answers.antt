use Rattle.std.proofs.Common.{◌≡◌, ◌∙◌, subst, sym, arith}
use Rattle.atomic_table.specs.Table.{Allows}
use Rattle.px_crew.specs.declared.rule.Quota.{Quota}
use Rattle.px_crew.specs.Drawn.{Given, Learnt}
use Rattle.px_crew.proofs.Numbering.{learns}
use Rattle.px_crew.proofs.source.Source.learn.Goals as goal

pub load-requires : goal.load-requires
load-requires g c =
    let me = c.args.seat.now.me in
    let self = c.args.self.now in
    let id = c.args.seat.now.id in
    let slots = self.word.shared.table_id.slots in
    let is : self.word.shared.key ≡ g.K.Known.quota = self.quota_is ∙ sym c.requires.quota in (
      c.requires.table,
      omega (arith, self.one_word),
      subst (λ (q : Quota). Allows (Given self.word.shared.key) slots id me 0 (λ n. n) (λ n after. Learnt q me.0 n after.0 × (after.1 ≡ me.1))) is
          (learns self.word.shared.key slots id me),
    )
