use Rattle.px_delivery.proofs.Posting.{new_post}
use Rattle.px_delivery.proofs.post.Post.create.Goals as goal

pub returns : goal.returns
returns c =
    new_post c.args.feeders c.args.boxes c.args.capacity c.in_ok-mailboxes.mailboxes.items c.feeders_to.new.mailboxes.items c.in_ok-feeders.feeders.items
    c.in_ok-mailboxes.ensures c.in_ok-feeders.ensures.feeders c.in_ok-feeders.ensures.made
