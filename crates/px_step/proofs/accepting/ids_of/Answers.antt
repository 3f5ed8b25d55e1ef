use Rattle.std.proofs.Common.{arith}
use Rattle.px_step.proofs.Accepted.{ids_added, ids-taken}
use Rattle.px_step.proofs.accepting.ids_of.Goals as goal

pub loop-state-preserved : goal.loop-state-preserved
loop-state-preserved c =
    ids_added c.args.program.now.firsts c.as_slice-state-items.result.now c.loop-state.state-index c.ids_of.result.now c.loop-state.ids.items c.extend_from_slice.new.self.items
    c.loop-state-test.true c.ids_of.ensures.all c.loop-state.invariant c.in_ok-extend_from_slice.ensures.items

pub returns : goal.returns
returns c = record {
  members = ids-taken c.args.program.now.firsts c.args.set.now c.as_slice-state-items.result.now c.loop-state.ids.items c.loop-state.state-index c.as_slice-state-items.ensures.same (omega arith) c.loop-state.invariant;
}
