use Rattle.std.proofs.Common.{ℕ, List, subst}
use Rattle.px_reader.specs.Reading.{IsLastFault}
use Rattle.px_hub.proofs.filtering.judge.Goals as goal

pub returns-in-Err-clause-fault : goal.returns-in-Err-clause-fault
returns-in-Err-clause-fault c =
    c.call_fault.ensures c.args.document.now (subst (λ (l : List ℕ). IsLastFault l c.in-Err.fault) c.in_ok-bytes.ensures.copies c.in-Err.ensures.fault)
