use Rattle.px_hub.proofs.Ending.{is_inside_or_not, counts_steps}
use Rattle.px_hub.proofs.laws.an_open_call_counts_its_steps.Goals as goal

pub returns-clause-place : goal.returns-clause-place
returns-clause-place c = is_inside_or_not

pub returns-clause-counts : goal.returns-clause-counts
returns-clause-counts c = counts_steps c.counts_add_up.ensures.add_up
