-- A line more is taken, or it is none of a proof.
use Rattle.std.proofs.Common.{◌≤◌, ◌<◌, [], ◌∷◌, length, sym, subst, ap, ◌∙◌, arith}
use Rattle.px_explain.specs.declared.reading.ProofFault.{ProofFault}
use Rattle.px_explain.specs.Incoming.{FailsBy}
use Rattle.px_explain.specs.Lines.{node_of}
use Rattle.px_explain.proofs.Incoming.{one_beyond, no_node, one_more}
use Rattle.px_explain.proofs.proof_reader.ProofReader.take_line.Goals as goal

pub returns-then-len-ge-MOST_NODES-clause-fault : goal.returns-then-len-ge-MOST_NODES-clause-fault
returns-then-len-ge-MOST_NODES-clause-fault c =
    let many : 100_000 ≤ length c.args.self.now.nodes.items = omega (arith, c.if-len-ge-MOST_NODES.true, c.len.ensures) in
    one_beyond c.args.self.now c.requires.other many

pub returns-in_default-clause-fault : goal.returns-in_default-clause-fault
returns-in_default-clause-fault c =
    subst (λ (fault : ProofFault). FailsBy c.args.self.now (10 ∷ []) fault) (sym c.fault.ensures)
    (no_node c.args.self.now c.requires.other (ap node_of (sym c.as_slice.ensures.value) ∙ sym c.in_default.ensures))

pub returns-in-Ok-clause-more : goal.returns-in-Ok-clause-more
returns-in-Ok-clause-more c = λ bytes h.
    let few : length c.args.self.now.nodes.items < 100_000 = omega (arith, c.if-len-ge-MOST_NODES.false, c.len.ensures) in
    one_more c.args.self.now (record { nodes = c.push.new.self; begun = c.clear.new.self }) c.in-Some.node bytes
    (ap node_of (sym c.as_slice.ensures.value) ∙ sym c.in-Some.ensures) few c.in-Ok.ensures.items c.clear.ensures.items h
