use Rattle.px_machine.proofs.Tabled.{carried, in-at}
use Rattle.px_machine.proofs.table.spread.Goals as goal

pub loop-entry-preserved : goal.loop-entry-preserved
loop-entry-preserved c =
    carried c.args.entries.now c.loop-entry.spread.items c.carry.new.entries.items _ (in-at c.args.entries.now c.loop-entry.entry-index _ c.loop-entry-test.true) c.loop-entry.invariant c.carry.ensures.only
