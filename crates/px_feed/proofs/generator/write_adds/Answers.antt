-- One add more.
use Rattle.px_feed.proofs.Generating.{adds_on, after_adds_on}
use Rattle.std.proofs.Common.{◌∙◌}
use Rattle.px_feed.proofs.generator.write_adds.Goals as goal

pub loop-preserved : goal.loop-preserved
loop-preserved c = record {
  text = adds_on _ _ _ _ _ _ c.loop-test.true c.in_ok-write_add.ensures.text c.in_ok-write_add.ensures.state ∙ c.loop.invariant.text;
  state = after_adds_on _ _ _ _ c.loop-test.true c.in_ok-write_add.ensures.state ∙ c.loop.invariant.state;
}
