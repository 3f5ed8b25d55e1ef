use Rattle.std.proofs.Common.{◌++◌, ◌∙◌, [], ap, refl, get_or, arith}
use Rattle.px_post.proofs.Posting.{gathered}
use Rattle.px_post.specs.Sending.{routed, to_go, with_route}
use Rattle.px_post.proofs.pushing.gather.Goals as goal

pub loop-id-preserved : goal.loop-id-preserved
loop-id-preserved c =
    let id = get_or c.args.ids.now c.loop-id.id-index 0 in
    gathered (routed c.args.routes.now.entries) c.loop-id.left.items c.gather_one.new.left.items (to_go (routed c.args.routes.now.entries) c.args.ids.now) c.args.ids.now c.loop-id.id-index 0 id
    (let t = c.loop-id-test.true in omega arith) refl
    (c.in_ok-gather_one.ensures.ok ∙ ap (λ o. c.loop-id.left.items ++ with_route o id []) c.mailbox_of.ensures)
    c.loop-id.invariant
