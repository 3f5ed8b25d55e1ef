-- The proof is checked, or the reading was stopped.
use Rattle.std.proofs.Common.{Err, ap}
use Rattle.px_xpath.specs.Whole.{filter}
use Rattle.px_document.proofs.Coming.{comes_at}
use Rattle.px_document.proofs.Opened.{fine_behind}
use Rattle.px_document.proofs.Found.{verified_finding, verified_stopped, stopped_by_source}
use Rattle.px_document.proofs.verifying.verified_behind.Goals as goal

pub returns-in-Ok-clause-found : goal.returns-in-Ok-clause-found
returns-in-Ok-clause-found g c = λ left o.
    verified_finding (filter c.args.filter.now) left _ _ c.args.opened _ c.shown.result o (c.in-Ok.ensures.tree _ (comes_at (g.S.Source.left c.args.source.now) c.args.opened.document o.begun o.come)) c.shown.ensures

pub returns-clause-found : goal.returns-clause-found
returns-clause-found g c = λ left o.
    verified_stopped (filter c.args.filter.now) left _ _ c.args.opened c.in-Err.stop c.outcome.result o c.outcome.ensures
    (λ fault e. c.in-Err.ensures.fault _ fault (comes_at (g.S.Source.left c.args.source.now) c.args.opened.document o.begun o.come) (ap Err e))

pub returns-clause-failed : goal.returns-clause-failed
returns-clause-failed g c = λ e. c.in-Err.ensures.failed (ap Err (stopped_by_source c.in-Err.stop c.outcome.result c.outcome.ensures e))

pub returns-clause-not_at_fault : goal.returns-clause-not_at_fault
returns-clause-not_at_fault g c = λ left o e.
    fine_behind left _ _ c.args.opened o
    (c.in-Err.ensures.not_at_fault _ (comes_at (g.S.Source.left c.args.source.now) c.args.opened.document o.begun o.come) (ap Err (stopped_by_source c.in-Err.stop c.outcome.result c.outcome.ensures e)))
