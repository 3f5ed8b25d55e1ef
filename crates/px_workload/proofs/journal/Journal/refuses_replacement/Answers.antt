use Rattle.std.proofs.Common.{◌-◌, sym, ◌∙◌, ap}
use Rattle.px_xpath.specs.Histories.{Replaces, after, live, live_size}
use Rattle.px_xpath.specs.Whole as whole
use Rattle.px_workload.specs.Changes.{history}
use Rattle.px_workload.proofs.Refusing.{replacement-fits}
use Rattle.px_workload.proofs.journal.Journal.refuses_replacement.Goals as goal

pub returns-clause-live : goal.returns-clause-live
returns-clause-live c = λ e. c.is_live.ensures.0 c.if-not-is_live.false

pub returns-clause-fits : goal.returns-clause-fits
returns-clause-fits c = λ e.
    let before = live (history c.args.self.now.changes) in
    replacement-fits (history c.args.self.now.changes) c.size_of.result c.saturating_sub-others.result (live_size (after 0 before (Replaces 0 c.args.id (whole.filter c.args.filter.now)))) (whole.filter c.args.filter.now)
    (sym c.refuses_beside.ensures.refusal ∙ e) (c.saturating_sub-others.ensures ∙ ap (λ n. n - c.size_of.result) c.live_size.ensures) (c.size_of.ensures.others c.args.filter.now)
