use Rattle.std.proofs.Common.{◌≡◌, ◌+◌, []}
use Rattle.px_delivery.proofs.Posting.{bumped, first_ways}
use Rattle.px_delivery.proofs.post.sender_of.Given as goal

abbrev pub invariant-loop-at : goal.invariant-loop-at
invariant-loop-at l = record {
  boxes : l.mailboxes.items ≡ bumped (l.feeder + 1) l.at l.initial.mailboxes.items;
  sender : l.sender ≡ record { feeder = l.feeder; routes = []; documents = 0; ways = first_ways l.feeder l.at l.initial.mailboxes.items; left = [] };
}
