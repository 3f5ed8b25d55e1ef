-- One id more has moved.
use Rattle.std.proofs.Common.{◌∙◌, ◌==◌, ◌+◌, ap, take, get_or, if◌then◌else◌}
use Rattle.std.proofs.lemmas.List.{take_more}
use Rattle.px_tiers.specs.HomeTables.{home_of}
use Rattle.px_tiers.proofs.Collecting.{moved_more}
use Rattle.px_tiers.proofs.home_table.HomeTable.set_all.Goals as goal

pub loop-id-preserved : goal.loop-id-preserved
loop-id-preserved c = record {
  moved = λ q.
      let ids = c.args.ids.now in
      let i = c.loop-id.id-index in
      let id = get_or ids i 0 in
      c.in_ok-set.ensures.ok q ∙ ap (λ home. if q == id then c.args.number else home) (c.loop-id.invariant.moved q)
      ∙ moved_more (home_of c.args.self.now) (take i ids) (take (i + 1) ids) id c.args.number q (take_more ids i 0 c.loop-id-test.true);
}
