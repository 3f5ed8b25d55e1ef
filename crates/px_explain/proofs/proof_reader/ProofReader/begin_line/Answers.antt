-- More bytes have come than a line has.
use Rattle.std.proofs.Common.{◌-◌, ◌<◌, length, sym, subst, arith}
use Rattle.px_explain.specs.declared.reading.ProofFault.{ProofFault}
use Rattle.px_explain.specs.Incoming.{FailsBy}
use Rattle.px_explain.proofs.Incoming.{too_long}
use Rattle.px_explain.proofs.proof_reader.ProofReader.begin_line.Goals as goal

pub returns-then-part-saturating_sub-clause-fault : goal.returns-then-part-saturating_sub-clause-fault
returns-then-part-saturating_sub-clause-fault c =
    let many : 16 - length c.args.self.now.begun.items < length c.args.part.now =
    omega (arith, c.if-part-saturating_sub.true, c.saturating_sub.ensures, c.len.ensures) in
    subst (λ (fault : ProofFault). FailsBy c.args.self.now c.args.part.now fault) (sym c.fault.ensures) (too_long c.args.self.now c.args.part.now c.requires many)
