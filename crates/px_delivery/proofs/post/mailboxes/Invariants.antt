use Rattle.px_delivery.specs.Posts.{AreMailboxes}
use Rattle.px_delivery.proofs.post.mailboxes.Given as goal

abbrev pub invariant-loop-number : goal.invariant-loop-number
invariant-loop-number l = AreMailboxes l.number l.capacity 0 l.mailboxes.items
