-- The ids so far.
use Rattle.std.proofs.Common.{◌≡◌, take, map}
use Rattle.px_xpath.specs.Subscribed.{subscriptions}
use Rattle.px_tiers.proofs.tier.ids_of.Given as goal

abbrev pub invariant-loop-numbered : goal.invariant-loop-numbered
invariant-loop-numbered l = record {
  all : l.ids.items ≡ map (λ s. s.id) (subscriptions (take l.numbered-index l.filters));
}
