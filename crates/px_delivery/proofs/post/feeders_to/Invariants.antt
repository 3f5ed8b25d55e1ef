use Rattle.std.proofs.Common.{◌≡◌}
use Rattle.px_delivery.specs.Posts.{feeders_of, made_all}
use Rattle.px_delivery.proofs.post.feeders_to.Given as goal

abbrev pub invariant-loop-feeder : goal.invariant-loop-feeder
invariant-loop-feeder l = record {
  feeders : l.made.items ≡ feeders_of l.feeder l.initial.mailboxes.items;
  boxes : l.mailboxes.items ≡ made_all l.feeder l.initial.mailboxes.items;
}
