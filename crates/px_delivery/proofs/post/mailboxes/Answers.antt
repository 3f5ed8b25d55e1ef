use Rattle.std.proofs.Common.{◌+◌, sym, subst}
use Rattle.std.specs.Prelude.{List}
use Rattle.px_post.specs.Mail.{Mail}
use Rattle.px_delivery.specs.Posts.{AreMailboxes}
use Rattle.px_delivery.proofs.Posting.{more_mailbox}
use Rattle.px_delivery.proofs.post.mailboxes.Goals as goal

pub loop-number-preserved : goal.loop-number-preserved
loop-number-preserved c =
    let e = c.in_ok-mailbox.ensures in
    subst (λ (l : List Mail). AreMailboxes (c.loop-number.number + 1) c.args.capacity 0 l) (sym c.in_ok-push.ensures.items)
    (more_mailbox c.loop-number.number c.args.capacity c.loop-number.mailboxes.items c.in_ok-mailbox.mailbox c.loop-number.invariant e.number e.capacity e.made e.none)
