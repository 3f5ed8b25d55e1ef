use Rattle.std.proofs.Common.{◌≡◌, ◌∙◌, List, ap, subst, arith}
use Rattle.std.specs.Prelude.{Some, slice_get}
use Rattle.px_post.specs.Mail.{Way}
use Rattle.px_post.specs.Sending.{Sending, Posts}
use Rattle.px_post.proofs.Posting.{gathered_sender, posted}
use Rattle.px_post.proofs.sender.Sender.post.Goals as goal

pub invariant_of-self : goal.invariant_of-self
invariant_of-self g c =
    gathered_sender c.self.inside.feeder c.self.inside.routes.entries c.self.inside.slips.items c.self.inside.left.items c.gather.new.left.items c.args.ids.now c.self.invariant c.in-Ok.ensures.ok
    (let a = c.gather.new.left.small.0 in let b = c.gather.new.left.small.1 in let e = c.gather.new.left.ok.0 in omega arith)
    (λ b w at. c.requires.may.letters b w (subst (λ (l : List Way). slice_get l b ≡ Some w) (ap (λ (s : Sending). s.ways) c.self.view_is) at))

pub returns-in-Ok-clause-posts : goal.returns-in-Ok-clause-posts
returns-in-Ok-clause-posts g c =
    let s : Sending = record { feeder = c.self.inside.feeder; routes = c.self.inside.routes.entries; documents = c.self.inside.documents; ways = c.self.inside.slips.items; left = c.self.inside.left.items } in
    subst (λ (u : Sending). Posts u c.args.ids.now c.resume.new.self) c.self.view_is
    (posted s c.resume.new.self c.args.ids.now c.gather.new.left.items (ap (λ (u : Sending). u.left) c.self.view_is ∙ c.requires.may.none) c.in-Ok.ensures.ok c.resume.ensures.goes_on)
