-- The pieces that were taken are the proof.
use Rattle.std.proofs.Common.{[], arith}
use Rattle.px_io.proofs.Counts.{rose_later}
use Rattle.px_io.proofs.Flowing.{takes_nothing}
use Rattle.px_explain.proofs.Incoming.{taken_few}
use Rattle.px_document.proofs.opening.read_opening.Goals as goal

pub in_front-requires : goal.in_front-requires
in_front-requires g c =
    let ended = (rw c.in-Ok-Some.field-0-is at c.in-Ok-Some.ensures.ended) _ _ c.loop.invariant.takes in (ended.begun, ended.bytes, ended.has_proof)

pub returns-in-Ok-Some-clause-opened : goal.returns-in-Ok-Some-clause-opened
returns-in-Ok-Some-clause-opened g c = c.in_front.ensures _ _ ((rw c.in-Ok-Some.field-0-is at c.in-Ok-Some.ensures.ended) _ _ c.loop.invariant.takes)

pub returns-in-Err-clause-halted : goal.returns-in-Err-clause-halted
returns-in-Err-clause-halted g c = c.in-Err.ensures.halted _ _ c.loop.invariant.takes

pub returns-in-Err-clause-failed : goal.returns-in-Err-clause-failed
returns-in-Err-clause-failed g c = λ e. rose_later _ _ _ c.loop.invariant.never_falls (c.in-Err.ensures.failed (cc))

pub loop-init : goal.loop-init
loop-init g c = record {
  takes = record { bytes = []; taken = takes_nothing (g.S.Source.left c.args.source.now); has_taken = c.new-proof.ensures; many = omega arith };
  never_falls = omega arith;
  room = c.requires;
}

pub unreachable-requires : goal.unreachable-requires
unreachable-requires g c =
    let takes = c.loop.invariant.takes in
    omega (arith, takes.many, taken_few c.loop.proof takes.bytes takes.has_taken, c.loop-test.false)

pub returns-in-Err-clause-not_at_fault : goal.returns-in-Err-clause-not_at_fault
returns-in-Err-clause-not_at_fault g c = λ e. c.in-Err.ensures.not_at_fault _ _ c.loop.invariant.takes (cc)
