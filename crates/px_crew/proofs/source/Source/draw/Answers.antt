use Rattle.std.proofs.Common.{◌≡◌, ◌∙◌, ◌<◌, ◌+◌, ◌%◌, ◌^◌, subst, sym, arith}
use Rattle.atomic_table.specs.Table.{Allows}
use Rattle.px_crew.specs.declared.rule.Quota.{Quota}
use Rattle.px_crew.specs.Drawn.{Given, Drew}
use Rattle.px_crew.proofs.Numbering.{draws}
use Rattle.px_crew.proofs.source.Source.draw.Goals as goal

pub fetch_add-requires : goal.fetch_add-requires
fetch_add-requires g c =
    let me = c.args.seat.now.me in
    let self = c.args.self.now in
    let id = c.args.seat.now.id in
    let slots = self.word.shared.table_id.slots in
    let is : self.word.shared.key ≡ g.K.Known.quota = self.quota_is ∙ sym c.requires.quota in (
      c.requires.table,
      omega (arith, self.one_word),
      subst (λ (q : Quota). Allows (Given self.word.shared.key) slots id me 0 (λ n. (n + 1) % 2 ^ 64) (λ n after. Drew q me.0 n after.0 × (after.1 ≡ me.1))) is
          (draws self.word.shared.key slots id me (subst (λ (q : Quota). q.limit + q.parts + 1 < 2 ^ 64) (sym self.quota_is) self.room) c.requires.part c.requires.going),
    )
