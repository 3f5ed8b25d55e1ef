use Rattle.std.proofs.Common.{◌∙◌}
use Rattle.px_xpath.specs.Subscribed.{subscription, subscriptions}
use Rattle.px_delta.specs.Sameness.{same_way}
use Rattle.px_delta.proofs.TwoLists.{pair_told}
use Rattle.px_delta.proofs.pairs.has_pair.Goals as goal

pub returns-in-Some : goal.returns-in-Some
returns-in-Some c = c.is_same.ensures ∙ pair_told same_way (subscriptions c.args.list.now) (subscription c.args.numbered.now) _ c.requires.order c.in-Some.ensures

pub returns-in-None : goal.returns-in-None
returns-in-None c = pair_told same_way (subscriptions c.args.list.now) (subscription c.args.numbered.now) _ c.requires.order c.in-None.ensures
