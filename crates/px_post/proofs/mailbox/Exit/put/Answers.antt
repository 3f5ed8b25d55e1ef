use Rattle.std.proofs.Common.{◌∙◌, sym, ap}
use Rattle.std.specs.Prelude.{Some}
use Rattle.px_line.specs.Lines.{LineName}
use Rattle.px_post.specs.Mail.{Way}
use Rattle.px_post.proofs.Numbered.{put_or_full}
use Rattle.px_post.proofs.mailbox.Exit.put.Goals as goal

pub returns-clause-put : goal.returns-clause-put
returns-clause-put g c =
    put_or_full c.deref.result.now.capacity c.args.self.now.capacity c.args.self.now.feeder c.give-given.result c.self.inside.seat.knows c.give-given.new.seat.knows c.args.letter c.args.self.now.put
    (ap (λ (l : LineName). l.capacity) c.deref.ensures ∙ ap (λ (w : Way). w.capacity) c.self.view_is)
    (sym (ap (λ (w : Way). w.put) c.self.view_is))
    (c.self.invariant.0.gives ∙ ap (λ (w : Way). Some w.feeder) c.self.view_is)
    c.give-given.ensures.given
