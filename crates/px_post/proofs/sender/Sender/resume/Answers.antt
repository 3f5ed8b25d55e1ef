use Rattle.std.proofs.Common.{subst}
use Rattle.px_post.specs.Sending.{Sending, GoesOn}
use Rattle.px_post.proofs.Posting.{moved_sender, moved_goes_on}
use Rattle.px_post.proofs.sender.Sender.resume.Goals as goal

pub invariant_of-self : goal.invariant_of-self
invariant_of-self g c =
    moved_sender c.self.inside.feeder c.self.inside.documents c.self.inside.routes.entries c.self.inside.slips.items c.self.inside.left.items
    c.put_all-stopped.new.slips.items c.put_all-stopped.new.left.items c.put_all-stopped.ensures.moves c.self.invariant

pub returns-clause-goes_on : goal.returns-clause-goes_on
returns-clause-goes_on g c =
    let s : Sending = record { feeder = c.self.inside.feeder; routes = c.self.inside.routes.entries; documents = c.self.inside.documents; ways = c.self.inside.slips.items; left = c.self.inside.left.items } in
    let t : Sending = record { feeder = c.self.inside.feeder; routes = c.self.inside.routes.entries; documents = c.self.inside.documents; ways = c.put_all-stopped.new.slips.items; left = c.put_all-stopped.new.left.items } in
    subst (λ (u : Sending). GoesOn u t) c.self.view_is
    (moved_goes_on s c.put_all-stopped.new.slips.items c.put_all-stopped.new.left.items c.put_all-stopped.ensures.moves)
