use Rattle.std.proofs.Common.{◌∙◌, sym, subst, arith}
use Rattle.std.specs.Arc.{arc_value}
use Rattle.px_line.specs.Lines.{HasNumber}
use Rattle.px_post.proofs.Numbered.{mail_after}
use Rattle.px_post.proofs.mailbox.Mailbox.take.Goals as goal

pub invariant_of-self : goal.invariant_of-self
invariant_of-self g c =
    let keeps = c.take-taken.ensures.keeps in
    mail_after
    (arc_value c.self.inside.line)
    c.take-taken.new.seat
    c.learn.new.seat
    c.learn.ensures.same
    (c.self.invariant.table ∙ sym c.take-taken.ensures.table)
    (let k = keeps.0 in let q = c.self.invariant.parts in omega arith)
    (keeps.1 ∙ c.self.invariant.alone)
    (subst HasNumber (sym keeps.3) c.self.invariant.makes)
    (keeps.2 ∙ c.self.invariant.gives)
    c.learn.ensures.learnt
