-- The proof is opened, or the reading was stopped.
use Rattle.std.proofs.Common.{Err, ap, arith}
use Rattle.px_io.proofs.Counts.{rose_later}
use Rattle.px_xpath.specs.Whole.{filter}
use Rattle.px_document.proofs.Found.{halted_finding, halted_by_source}
use Rattle.px_document.proofs.verifying.verified.Goals as goal

pub returns-clause-found : goal.returns-clause-found
returns-clause-found g c = halted_finding (filter c.args.filter.now) _ _ c.in-Err.halt c.halted.result c.in-Err.ensures.halted c.halted.ensures

pub returns-clause-failed : goal.returns-clause-failed
returns-clause-failed g c = λ e. c.in-Err.ensures.failed (ap Err (halted_by_source c.in-Err.halt c.halted.result c.halted.ensures e))

pub returns-clause-not_at_fault : goal.returns-clause-not_at_fault
returns-clause-not_at_fault g c = λ e. c.in-Err.ensures.not_at_fault (ap Err (halted_by_source c.in-Err.halt c.halted.result c.halted.ensures e))
