use Rattle.std.proofs.Common.{◌∙◌, refl, length}
use Rattle.px_afa.proofs.FirstIds.{ids_next, path_within}
use Rattle.px_afa.proofs.first_ids.ids_by_first.Goals as goal

pub put-requires : goal.put-requires
put-requires c = record {
  within = path_within c.args.states.now c.args.firsts.now c.loop-first.first-index (length c.loop-first.ids) _ (record { id = 0; state = 0 }) c.requires.paths c.loop-first-test.true refl c.loop-first.invariant.count;
}

pub loop-first-preserved : goal.loop-first-preserved
loop-first-preserved c = record {
  count = c.in_ok-put.ensures.count ∙ c.loop-first.invariant.count;
  rows = ids_next c.args.firsts.now c.loop-first.first-index _ _ (record { id = 0; state = 0 }) c.loop-first.ids c.put.new.self c.loop-first-test.true refl refl c.in_ok-put.ensures.put c.loop-first.invariant.rows;
}
