-- The pairs are some of the first list.
use Rattle.std.proofs.Common.{◌∙◌, ap}
use Rattle.std.proofs.lemmas.List.{take_all}
use Rattle.px_xpath.specs.Subscribed.{subscriptions}
use Rattle.px_delta.specs.Lists.{without}
use Rattle.px_delta.specs.Sameness.{same_way}
use Rattle.px_delta.proofs.Leaving.{order_left}
use Rattle.px_delta.proofs.changed.changed.Goals as goal

pub returns-clause-order : goal.returns-clause-order
returns-clause-order c =
    order_left c.loop-numbered.pairs.items c.args.first.now c.args.second.now
    (c.loop-numbered.invariant.pairs ∙ ap (λ xs. without same_way (subscriptions xs) (subscriptions c.args.second.now)) (take_all c.loop-numbered.numbered-index c.args.first.now c.loop-numbered-test.false)) c.requires.first
