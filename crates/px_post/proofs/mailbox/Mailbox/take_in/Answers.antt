use Rattle.std.proofs.Common.{◌∙◌, sym, ap, subst, arith}
use Rattle.std.specs.Arc.{arc_value}
use Rattle.px_line.specs.declared.rule.Known.{Known}
use Rattle.px_line.specs.Lines.{HasNumber}
use Rattle.px_post.specs.declared.letter.Letter.{Letter}
use Rattle.px_post.proofs.Numbered.{mail_after}
use Rattle.px_post.proofs.mailbox.Mailbox.take_in.Goals as goal

pub invariant_of-self : goal.invariant_of-self
invariant_of-self c =
    let ended = c.end.ensures.ended in
    mail_after
    (arc_value c.self.inside.line)
    c.end.new.seat
    c.learn.new.seat
    c.learn.ensures.same
    (c.self.invariant.table ∙ sym c.end.ensures.table)
    (let k = ap (λ (v : Known Letter). v.parts) ended in let q = c.self.invariant.parts in omega arith)
    (ap (λ (v : Known Letter). v.alone) ended ∙ c.self.invariant.alone)
    (subst HasNumber (sym (ap (λ (v : Known Letter). v.makes) ended)) c.self.invariant.makes)
    (ap (λ (v : Known Letter). v.gives) ended ∙ c.self.invariant.gives)
    c.learn.ensures.learnt
