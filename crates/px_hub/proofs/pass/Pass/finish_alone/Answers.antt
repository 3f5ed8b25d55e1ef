use Rattle.std.proofs.Common.{◌≡◌, ℕ, false, refl, sym, ap, ◌∙◌, subst}
use Rattle.std.specs.Prelude.{IfOk, OnErr}
use Rattle.std.specs.Arc.{arc_value}
use Rattle.px_text.specs.Nodes.{Root}
use Rattle.px_reader.specs.Spelling.{events_of}
use Rattle.px_rule.specs.Table.{TableName}
use Rattle.px_hub.specs.declared.engine.Engine.TheVariants.{Private}
use Rattle.px_hub.specs.Passes.{PassView, pass_view}
use Rattle.px_hub.specs.Replying.{Replies, program_of}
use Rattle.px_hub.specs.OpenCalls.{HasTaken, closed, answer_alone}
use Rattle.px_hub.proofs.Opening.{pass_opens}
use Rattle.px_hub.proofs.Ending.{alone_answers, ok_of_all, err_alone}
use Rattle.px_hub.proofs.pass.Pass.finish_alone.Goals as goal

pub finish-requires : goal.finish-requires
finish-requires g c = let h = c.requires.whole in record { whole = (program_of h.0, h.1, h.2.serves.counted) }

pub invariant_of-self : goal.invariant_of-self
invariant_of-self g c =
    let p : PassView = pass_view c.self.inside.number c.self.inside.seat.view (arc_value c.self.inside.built).version c.self.inside.home c.self.inside.is_open in
    pass_opens g.N.HubName.table c.self.inside.seat.table g.N.HubName.passes c.self.inside.version (arc_value c.self.inside.live).filters (arc_value c.self.inside.built) p false c.self.invariant
    (λ _. ap (λ (v : PassView). v.view.stay.place) c.self.view_is ∙ c.requires.whole.2.serves.outside)

pub returns-clause-reply : goal.returns-clause-reply
returns-clause-reply g c =
    let p : PassView = pass_view c.self.inside.number c.self.inside.seat.view (arc_value c.self.inside.built).version c.self.inside.home c.self.inside.is_open in
    let table : TableName = g.N.HubName.table in
    let version : ℕ = c.self.inside.version in
    let number : ℕ = c.self.inside.number in
    let e = c.finish.ensures in
    subst (λ r. IfOk r (λ reply. (v : PassView) (root : Root) → HasTaken table v c.args.self.now (Private c.args.lone c.args.why) (events_of root) → Replies table.shape v (closed p) root reply)) (sym c.answer.ensures)
    (ok_of_all (λ v root reply. Replies table.shape v (closed p) root reply) (λ v root. HasTaken table v c.args.self.now (Private c.args.lone c.args.why) (events_of root)) (answer_alone version number c.args.why c.finish.result) (λ v root taken.
    let h : HasTaken table v p (Private c.args.lone c.args.why) (events_of root) = subst (λ (y : PassView). HasTaken table v y (Private c.args.lone c.args.why) (events_of root)) (sym c.self.view_is) taken in
    alone_answers table v p root c.args.lone c.args.why (arc_value c.self.inside.live).filters version number c.finish.result c.self.invariant.live h c.self.invariant.version_is refl e.matches e.steps))

pub returns-clause-memory : goal.returns-clause-memory
returns-clause-memory g c =
    let p : PassView = pass_view c.self.inside.number c.self.inside.seat.view (arc_value c.self.inside.built).version c.self.inside.home c.self.inside.is_open in
    subst (λ r. OnErr r (closed p ≡ closed c.args.self.now)) (sym c.answer.ensures) (err_alone (closed p ≡ closed c.args.self.now) c.self.inside.version c.self.inside.number c.args.why c.finish.result (ap closed c.self.view_is))
