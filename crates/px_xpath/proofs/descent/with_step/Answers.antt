use Rattle.px_xpath.specs.declared.filter.Cond.TheViews.{roll-Step}
use Rattle.px_xpath.proofs.Onto.{ways_grow}
use Rattle.px_xpath.proofs.descent.with_step.Goals as goal

pub returns : goal.returns
returns c = λ onward.
    rw c.in_ok-push.ensures.ok (ways_grow c.args.done (roll-Step (record { axis = c.args.axis; test = c.args.test; conds = c.args.conds })) onward)
