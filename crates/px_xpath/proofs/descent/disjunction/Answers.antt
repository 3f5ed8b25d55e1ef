use Rattle.std.proofs.Common.{◌∙◌}
use Rattle.px_xpath.proofs.FilterViews.{condition-Or}
use Rattle.px_xpath.proofs.Onto.{several_some}
use Rattle.px_xpath.proofs.descent.disjunction.Goals as goal

pub returns-then-len-ne1 : goal.returns-then-len-ne1
returns-then-len-ne1 c = condition-Or c.args.members ∙ several_some c.args.members (λ e. c.if-len-ne1.true (c.len.ensures ∙ e))
