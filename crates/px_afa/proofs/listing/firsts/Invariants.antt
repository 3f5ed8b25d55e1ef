use Rattle.std.proofs.Common.{◌≡◌, ◌≤◌, ◌+◌, length, drop}
use Rattle.px_xpath.specs.Histories.{live_size}
use Rattle.px_xpath.specs.Subscribed.{subscriptions}
use Rattle.px_afa.specs.Building.{filters_made}
use Rattle.px_afa.proofs.FirstsListed.{onto}
use Rattle.px_afa.proofs.listing.firsts.Given as goal

abbrev pub invariant-loop-numbered : goal.invariant-loop-numbered
invariant-loop-numbered l = record {
  made : filters_made (subscriptions l.live) l.initial.builder ≡ onto l.firsts.items (filters_made (subscriptions (drop l.numbered-index l.live)) l.builder);
  room : length l.builder + live_size (subscriptions (drop l.numbered-index l.live)) ≤ 500_000;
}
