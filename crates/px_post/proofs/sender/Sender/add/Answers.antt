use Rattle.std.proofs.Common.{◌∙◌, ◌++◌, ◌∷◌, [], List, sym, ap, subst}
use Rattle.px_post.specs.Mail.{Way}
use Rattle.px_post.specs.Sending.{Sending, IsNextWay, IsSender}
use Rattle.px_post.proofs.Posting.{added}
use Rattle.px_post.proofs.sender.Sender.add.Goals as goal

pub invariant_of-self-2 : goal.invariant_of-self-2
invariant_of-self-2 c =
    let s : Sending = record { feeder = c.self.inside.feeder; routes = c.self.inside.routes.entries; documents = c.self.inside.documents; ways = c.self.inside.slips.items; left = c.self.inside.left.items } in
    subst (λ (l : List Way). IsSender c.self.inside.feeder c.self.inside.routes.entries l c.self.inside.left.items)
    (sym (c.in_ok-push.ensures.items ∙ ap (λ (w : Way). c.self.inside.slips.items ++ w ∷ []) c.end.ensures))
    (added s c.args.exit (subst (λ (t : Sending). IsNextWay t c.args.exit) (sym c.self.view_is) c.requires.next) c.self.invariant)
