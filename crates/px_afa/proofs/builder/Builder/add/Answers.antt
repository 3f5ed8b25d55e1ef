use Rattle.std.proofs.Common.{◌≡◌, ◌∷◌, [], ◌++◌, length, ap, sym, ◌∙◌, arith, subst}
use Rattle.px_afa.specs.Building.{newest}
use Rattle.px_afa.specs.Numbering.{AreNumbered}
use Rattle.px_afa.proofs.StatesByNumber.{newest-length, newest-end}
use Rattle.px_afa.proofs.StateOrder.{numbered_more}
use Rattle.px_afa.proofs.builder.Builder.add.Goals as goal

pub returns-clause-next : goal.returns-clause-next
returns-clause-next c = c.len-n.ensures ∙ (c.self.inside.states.ok.0 ∙ (sym (newest-length c.self.inside.states.items) ∙ ap length c.self.view_is))

pub overflow_cast-n : goal.overflow_cast-n
overflow_cast-n c =
    let e : c.len-n.result ≡ length c.args.self.now = c.len-n.ensures ∙ (c.self.inside.states.ok.0 ∙ (sym (newest-length c.self.inside.states.items) ∙ ap length c.self.view_is)) in
    omega (arith, c.requires.few)

pub invariant_of-self-2 : goal.invariant_of-self-2
invariant_of-self-2 c =
    subst (λ states. AreNumbered states c.insert.new.self)
    (sym (ap newest (c.in_ok-push.ensures.items ∙ ap (λ items. items ++ c.args.state ∷ []) c.in_ok-reserve.ensures.items) ∙ newest-end c.self.inside.states.items c.args.state))
    (numbered_more (newest c.self.inside.states.items) c.self.inside.numbers c.insert.new.self c.args.state c.in_ok-key.key c.len-n.result
    c.self.invariant c.in_ok-key.ensures.same (c.len-n.ensures ∙ (c.self.inside.states.ok.0 ∙ sym (newest-length c.self.inside.states.items))) c.in_ok-insert.ensures.updates)

pub returns-clause-added : goal.returns-clause-added
returns-clause-added c =
    ap newest (c.in_ok-push.ensures.items ∙ ap (λ items. items ++ c.args.state ∷ []) c.in_ok-reserve.ensures.items)
    ∙ (newest-end c.self.inside.states.items c.args.state ∙ ap (λ states. c.args.state ∷ states) c.self.view_is)
