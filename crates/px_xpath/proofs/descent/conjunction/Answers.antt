use Rattle.std.proofs.Common.{◌∙◌}
use Rattle.px_xpath.proofs.FilterViews.{condition-And}
use Rattle.px_xpath.proofs.Onto.{several_each}
use Rattle.px_xpath.proofs.descent.conjunction.Goals as goal

pub returns-then-len-ne1 : goal.returns-then-len-ne1
returns-then-len-ne1 c = condition-And c.args.members ∙ several_each c.args.members (λ e. c.if-len-ne1.true (c.len.ensures ∙ e))
