-- What is at home there is wanted.
use Rattle.std.proofs.Common.{◌+◌, ◌++◌, ◌∙◌, get_or, refl, ap}
use Rattle.px_tiers.specs.HomeTables.{home_of}
use Rattle.px_tiers.proofs.Collecting.{kept_more, if_wanted}
use Rattle.px_tiers.proofs.tiers.keep_at_home.Goals as goal

pub loop-id-preserved : goal.loop-id-preserved
loop-id-preserved c = record {
  kept = λ q. kept_more (home_of c.args.homes.now) (c.args.older + 1) c.args.ids.now c.args.kept.now.items c.loop-id.kept.items c.push_if.new.ids.items c.loop-id.id-index (get_or c.args.ids.now c.loop-id.id-index 0) q c.loop-id-test.true refl
      (c.in_ok-push_if.ensures.pushed ∙ ap (λ wanted. c.loop-id.kept.items ++ if_wanted wanted (get_or c.args.ids.now c.loop-id.id-index 0)) c.is_at_home.ensures.home) (c.loop-id.invariant.kept q);
}
