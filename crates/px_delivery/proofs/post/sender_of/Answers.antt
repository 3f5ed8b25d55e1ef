use Rattle.std.proofs.Common.{◌∙◌, ◌+◌, refl, arith}
use Rattle.px_delivery.proofs.Posting.{first_ways, next_box, next_way, one_exit, way_added, sender_all, boxes_all}
use Rattle.px_delivery.proofs.post.sender_of.Goals as goal

pub exit_of-requires : goal.exit_of-requires
exit_of-requires c = record {
  there =
      next_box c.args.feeder c.loop-at.at c.args.mailboxes.now.items c.loop-at.mailboxes.items c.requires.next
      (let t = c.loop-at-test.true in let k = c.args.mailboxes.now.ok in let l = c.len-at-end.ensures in omega arith) c.loop-at.invariant.boxes;
}

pub add-requires : goal.add-requires
add-requires c = record {
  next =
      next_way c.args.feeder c.loop-at.at c.args.mailboxes.now.items c.loop-at.mailboxes.items c.loop-at.sender c.in_ok-exit.exit c.requires.next
      (let t = c.loop-at-test.true in let k = c.args.mailboxes.now.ok in let l = c.len-at-end.ensures in omega arith) c.loop-at.invariant.boxes c.loop-at.invariant.sender c.in_ok-exit.ensures.exit;
}

pub loop-at-preserved : goal.loop-at-preserved
loop-at-preserved c =
    let more = one_exit c.args.feeder c.loop-at.at c.args.mailboxes.now.items c.loop-at.mailboxes.items c.exit_of.new.mailboxes.items (first_ways c.args.feeder c.loop-at.at c.args.mailboxes.now.items) c.in_ok-exit.exit
    (let t = c.loop-at-test.true in let k = c.args.mailboxes.now.ok in let l = c.len-at-end.ensures in omega arith) c.loop-at.invariant.boxes refl c.in_ok-exit.ensures.exit c.in_ok-exit.ensures.made in
    record {
      boxes = more.0;
      sender = way_added c.args.feeder c.loop-at.at c.args.mailboxes.now.items c.loop-at.sender c.add.new.self c.in_ok-exit.exit c.loop-at.invariant.sender c.in_ok-add.ensures.way more.1;
    }

pub returns-clause-sender : goal.returns-clause-sender
returns-clause-sender c =
    c.loop-at.invariant.sender ∙ sender_all c.args.feeder c.loop-at.at c.args.mailboxes.now.items
    (let t = c.loop-at-test.false in let a = c.loop-at.auto.at-end in let k = c.args.mailboxes.now.ok in let l = c.len-at-end.ensures in omega arith)

pub returns-clause-made : goal.returns-clause-made
returns-clause-made c =
    c.loop-at.invariant.boxes ∙ boxes_all (c.args.feeder + 1) c.loop-at.at c.args.mailboxes.now.items
    (let t = c.loop-at-test.false in let a = c.loop-at.auto.at-end in let k = c.args.mailboxes.now.ok in let l = c.len-at-end.ensures in omega arith)
