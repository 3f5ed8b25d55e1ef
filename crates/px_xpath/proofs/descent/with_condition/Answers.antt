use Rattle.px_xpath.proofs.Onto.{conditions_grow}
use Rattle.px_xpath.proofs.descent.with_condition.Goals as goal

pub returns : goal.returns
returns c = λ more. rw c.in_ok-push.ensures.ok (conditions_grow c.args.done c.args.condition more)
