use Rattle.px_afa.proofs.GroupedLists.{count_more}
use Rattle.px_afa.proofs.GuardTables.{guards_next}
use Rattle.px_afa.proofs.guarding.guards.Goals as goal

pub loop-n-preserved : goal.loop-n-preserved
loop-n-preserved c =
    let grown = c.in_ok-push.ensures.items in
    record {
      count = rw grown (count_more c.loop-n.guards.items c.guard_of-guard.result c.loop-n.n c.loop-n.invariant.count);
      are = guards_next c.args.states.now c.loop-n.n c.index-states-n.result c.loop-n.guards.items c.push.new.self.items c.guard_of-guard.result c.loop-n-test.true c.index-states-n.is
          c.loop-n.invariant.count c.loop-n.invariant.are c.guard_of-guard.ensures.it grown;
    }
