use Rattle.std.proofs.Common.{◌∙◌, ◌+◌, List, sym, ap, subst}
use Rattle.px_post.specs.Mail.{Mail}
use Rattle.px_delivery.specs.Posts.{AreNext, made_all, sender_to}
use Rattle.px_delivery.proofs.Posting.{none_made, made_next, made_again, more_feeders}
use Rattle.px_delivery.proofs.post.feeders_to.Goals as goal

pub loop-feeder-init : goal.loop-feeder-init
loop-feeder-init c = record { feeders = c.new-made.ensures.items; boxes = sym (none_made c.args.mailboxes.now.items c.requires.next) }

pub sender_of-requires : goal.sender_of-requires
sender_of-requires c = record {
  next =
      subst (λ (l : List Mail). AreNext c.loop-feeder.feeder l) (sym c.loop-feeder.invariant.boxes) (made_next 0 c.loop-feeder.feeder c.args.mailboxes.now.items c.requires.next);
}

pub loop-feeder-preserved : goal.loop-feeder-preserved
loop-feeder-preserved c = record {
  feeders =
      c.in_ok-push.ensures.items
      ∙ more_feeders c.loop-feeder.feeder c.args.mailboxes.now.items c.loop-feeder.made.items c.in_ok-sender.sender c.loop-feeder.invariant.feeders
      (c.in_ok-sender.ensures.sender ∙ ap (λ (l : List Mail). sender_to c.loop-feeder.feeder l) c.loop-feeder.invariant.boxes);
  boxes =
      c.in_ok-sender.ensures.made ∙ ap (λ (l : List Mail). made_all (c.loop-feeder.feeder + 1) l) c.loop-feeder.invariant.boxes
      ∙ made_again (c.loop-feeder.feeder + 1) c.loop-feeder.feeder c.args.mailboxes.now.items;
}
