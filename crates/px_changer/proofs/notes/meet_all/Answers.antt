-- One more has met a note, and at the end all have.
use Rattle.std.proofs.Common.{◌≡◌, ℕ, length, ◌∙◌, subst, arith}
use Rattle.px_hub.specs.Calls.{seen_of}
use Rattle.px_hub.specs.Passes.{PassView}
use Rattle.px_changer.specs.Alone.{MetAt}
use Rattle.px_changer.proofs.Meetings.{Sofar, one_more, all_met}
use Rattle.px_changer.proofs.notes.meet_all.Goals as goal

pub loop-at-preserved : goal.loop-at-preserved
loop-at-preserved g c =
    let i = c.loop-at.invariant in
    let met = subst (λ (p : PassView). MetAt (seen_of p) c.loop-at.at c.loop-at.others c.meet_at.new.others) i.0 ((c.in-Ok.ensures {u = tt}).met) in
    (c.meet_at.ensures.same ∙ i.0, one_more (seen_of c.args.first.now) c.loop-at.at c.args.others.now c.loop-at.others c.meet_at.new.others i.1 (omega arith) met)

pub returns-clause-met : goal.returns-clause-met
returns-clause-met g c =
    let i = c.loop-at.invariant in
    let long = i.1.as_many in
    let ended : c.loop-at.at ≡ length c.args.others.now = omega arith in
    all_met (seen_of c.args.first.now) c.args.others.now c.loop-at.others
    (subst (λ (n : ℕ). Sofar (seen_of c.args.first.now) n c.args.others.now c.loop-at.others) ended i.1)
