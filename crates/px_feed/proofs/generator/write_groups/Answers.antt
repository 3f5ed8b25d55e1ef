-- One group more.
use Rattle.px_feed.proofs.Generating.{after_group, groups_on}
use Rattle.std.proofs.Common.{◌∙◌}
use Rattle.px_feed.proofs.generator.write_groups.Goals as goal

pub loop-preserved : goal.loop-preserved
loop-preserved c = record {
  text = groups_on 4 c.loop.counter c.loop.draws.state c.write_group.new.draws.state c.loop.out.items c.write_group.new.out.items c.loop-test.true c.in_ok-write_group.ensures.text c.in_ok-write_group.ensures.state ∙ c.loop.invariant.text;
  state = after_group c.loop.counter c.args.draws.now.state c.loop.draws.state c.write_group.new.draws.state c.loop.invariant.state c.in_ok-write_group.ensures.state;
}
