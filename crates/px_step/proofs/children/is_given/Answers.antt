use Rattle.std.proofs.Common.{sym, ◌∙◌}
use Rattle.px_step.proofs.Popped.{met_there}
use Rattle.px_step.proofs.children.is_given.Goals as goal

pub has_true_body-requires-clause-there : goal.has_true_body-requires-clause-there
has_true_body-requires-clause-there c = met_there c.args.program.now.states c.args.label c.args.n (sym c.is_met.ensures.value ∙ c.if-is_met.true)
