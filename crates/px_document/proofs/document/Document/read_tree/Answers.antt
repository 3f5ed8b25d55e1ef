-- The pieces that have come are the document.
use Rattle.std.proofs.Common.{Ok, ap, arith}
use Rattle.px_io.proofs.Counts.{rose_later}
use Rattle.px_tree.specs.Trees.{tree}
use Rattle.px_document.proofs.Coming.{comes_at, comes_still, gives_tree, gives_fault}
use Rattle.px_document.proofs.document.Document.read_tree.Goals as goal

pub finish-requires : goal.finish-requires
finish-requires g c =
    let first = c.requires.come in
    let end = c.in-Ok-true.ensures.end (ap Ok c.in-Ok-true.field-0-test) in
    let now = c.loop.invariant.comes _ (comes_at (g.S.Source.left c.args.source.now) c.args.self first.0 first.1) in
    let still = comes_still _ _ _ _ _ c.read_piece.new.self now end.1 end.2 in
    record { come = (still.bytes, still.come) }

pub returns-in-Ok-true-clause-tree : goal.returns-in-Ok-true-clause-tree
returns-in-Ok-true-clause-tree g c = λ left comes.
    let end = c.in-Ok-true.ensures.end (ap Ok c.in-Ok-true.field-0-test) in
    let still = comes_still _ _ _ _ _ c.read_piece.new.self (c.loop.invariant.comes left comes) end.1 end.2 in
    gives_tree tree c.finish.result left _ still.bytes still.taken end.0 (c.finish.ensures.tree still.bytes still.come)

pub returns-in-Ok-true-clause-fault : goal.returns-in-Ok-true-clause-fault
returns-in-Ok-true-clause-fault g c = λ left fault comes e.
    let end = c.in-Ok-true.ensures.end (ap Ok c.in-Ok-true.field-0-test) in
    let still = comes_still _ _ _ _ _ c.read_piece.new.self (c.loop.invariant.comes left comes) end.1 end.2 in
    gives_fault left _ still.bytes fault still.taken end.0 (c.finish.ensures.fault still.bytes fault still.come e)

pub returns-in-Err-clause-fault : goal.returns-in-Err-clause-fault
returns-in-Err-clause-fault g c = λ left fault comes e. c.in-Err.ensures.fault _ left fault (c.loop.invariant.comes left comes) (cc)

pub returns-in-Err-clause-failed : goal.returns-in-Err-clause-failed
returns-in-Err-clause-failed g c = λ e. rose_later _ _ _ c.loop.invariant.never_falls (c.in-Err.ensures.failed (cc))

pub loop-init : goal.loop-init
loop-init g c = record { comes = λ left comes. comes; never_falls = omega arith; room = c.requires.room }

pub loop-preserved : goal.loop-preserved
loop-preserved g c = record {
  comes = λ left comes. c.in-Ok-false.ensures.more (ap Ok c.in-Ok-false.field-0-test) _ left (c.loop.invariant.comes left comes);
  never_falls = omega (arith, c.loop.invariant.never_falls, c.in-Ok-false.ensures.never_falls);
  room = omega (arith, c.loop.invariant.room, c.in-Ok-false.ensures.room);
}

pub unreachable-requires : goal.unreachable-requires
unreachable-requires g c =
    let first = c.requires.come in
    let now = c.loop.invariant.comes _ (comes_at (g.S.Source.left c.args.source.now) c.args.self first.0 first.1) in
    omega (arith, now.many, now.come.read.reading.small, c.loop-test.false)

pub returns-in-Err-clause-not_at_fault : goal.returns-in-Err-clause-not_at_fault
returns-in-Err-clause-not_at_fault g c = λ left comes e. c.in-Err.ensures.not_at_fault _ left (c.loop.invariant.comes left comes) (cc)
