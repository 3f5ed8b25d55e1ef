use Rattle.std.proofs.Common.{append_assoc}
use Rattle.px_meaning.proofs.Texts.{characters_more}
use Rattle.px_meaning.proofs.comparisons.+scan.Goals as goal

pub take_texts-loop-child-preserved : goal.take_texts-loop-child-preserved
take_texts-loop-child-preserved t c = λ text h.
    let more = characters_more c.args.children.now c.loop-child.child-index c.child-item.result c.loop-child-test.true c.child-item.is in
    rw more (rw append_assoc at (c.take_node.ensures _ (c.loop-child.invariant text h)))
