use Rattle.std.proofs.Common.{◌≡◌, ℕ, false, [], refl, sym, ap, ◌∙◌, subst}
use Rattle.std.specs.Prelude.{OnErr, IfOk}
use Rattle.std.specs.Arc.{arc_value}
use Rattle.px_text.specs.Nodes.{Root}
use Rattle.px_reader.specs.Spelling.{events_of}
use Rattle.px_afa.specs.Building.{Automata}
use Rattle.px_rule.specs.Table.{TableName}
use Rattle.px_hub.specs.declared.at_version.AtVersion.{AtVersion}
use Rattle.px_hub.specs.declared.engine.Engine.TheVariants.{Shared}
use Rattle.px_hub.specs.Passes.{PassView, pass_view}
use Rattle.px_hub.specs.Replying.{Replies, Stays}
use Rattle.px_hub.specs.OpenCalls.{HasTaken, seated, answer_of}
use Rattle.px_hub.proofs.Opening.{pass_moves, compiled_of, program_at}
use Rattle.px_hub.proofs.Ending.{moved_out, filtered_at, inside_answers, ok_of_all, err_inside, stays_out}
use Rattle.px_hub.proofs.hub.Hub.finish_inside.Goals as goal

pub finish_inside-done-requires : goal.finish_inside-done-requires
finish_inside-done-requires g c =
    let p : PassView = pass_view c.pass.inside.number c.pass.inside.seat.view (arc_value c.pass.inside.built).version c.pass.inside.home c.pass.inside.is_open in
    let v = c.requires.whole.0 in
    let root = c.requires.whole.1 in
    let table : TableName = g.N.HubName.table in
    let h : HasTaken table v p (Shared c.args.call) (events_of root) = subst (λ (y : PassView). HasTaken table v y (Shared c.args.call) (events_of root)) (sym c.pass.view_is) c.requires.whole.2 in
    let compiled : Automata = c.deref-2.result.now in
    let is = compiled_of v p (arc_value c.pass.inside.built) compiled h.opened.same c.pass.invariant.built refl (c.deref-2.ensures ∙ ap (λ (x : AtVersion). arc_value x.compiled) c.deref.ensures) h.serves.have in
    let seat_is : c.pass.inside.seat ≡ seated table p.view = λ i. seated (c.pass.invariant.at_table i) p.view in
    record {
      table = c.pass.invariant.at_table ∙ sym c.args.self.now.named;
      program = program_at table v p c.args.call (events_of root) compiled h is;
      whole = (root, filtered_at table v p c.pass.inside.seat c.args.call (events_of root) compiled seat_is h is);
    }

pub invariant_of-pass : goal.invariant_of-pass
invariant_of-pass g c =
    let p : PassView = pass_view c.pass.inside.number c.pass.inside.seat.view (arc_value c.pass.inside.built).version c.pass.inside.home c.pass.inside.is_open in
    let v = c.requires.whole.0 in
    let root = c.requires.whole.1 in
    let table : TableName = g.N.HubName.table in
    let h : HasTaken table v p (Shared c.args.call) (events_of root) = subst (λ (y : PassView). HasTaken table v y (Shared c.args.call) (events_of root)) (sym c.pass.view_is) c.requires.whole.2 in
    let e = c.finish_inside-done.ensures in
    let m = moved_out table v p c.finish_inside-done.new.seat.view c.args.call (events_of root) h e.left e.stay in
    pass_moves table c.pass.inside.seat.table c.finish_inside-done.new.seat.table g.N.HubName.passes c.pass.inside.version (arc_value c.pass.inside.live).filters (arc_value c.pass.inside.built) p c.finish_inside-done.new.seat.view false [] c.pass.invariant
    (e.table ∙ c.pass.invariant.at_table) m.0 m.1 m.2 (λ _. m.3)

pub returns-clause-reply : goal.returns-clause-reply
returns-clause-reply g c =
    let p : PassView = pass_view c.pass.inside.number c.pass.inside.seat.view (arc_value c.pass.inside.built).version c.pass.inside.home c.pass.inside.is_open in
    let table : TableName = g.N.HubName.table in
    let w = c.finish_inside-done.new.seat.view in
    let done = c.finish_inside-done.result in
    let compiled : Automata = c.deref-2.result.now in
    let e = c.finish_inside-done.ensures in
    let seat_is : c.pass.inside.seat ≡ seated table p.view = λ i. seated (c.pass.invariant.at_table i) p.view in
    let number : ℕ = c.pass.inside.number in
    let version : ℕ = c.pass.inside.version in
    let q : PassView = pass_view number w p.have p.home false in
    subst (λ r. IfOk r (λ reply. (v : PassView) (root : Root) → HasTaken table v c.args.pass.now (Shared c.args.call) (events_of root) → Replies table.shape v q root reply)) (sym c.answer.ensures)
    (ok_of_all (λ v root reply. Replies table.shape v q root reply) (λ v root. HasTaken table v c.args.pass.now (Shared c.args.call) (events_of root)) (answer_of version number done) (λ v root taken.
    let h : HasTaken table v p (Shared c.args.call) (events_of root) = subst (λ (y : PassView). HasTaken table v y (Shared c.args.call) (events_of root)) (sym c.pass.view_is) taken in
    let is = compiled_of v p (arc_value c.pass.inside.built) compiled h.opened.same c.pass.invariant.built refl (c.deref-2.ensures ∙ ap (λ (x : AtVersion). arc_value x.compiled) c.deref.ensures) h.serves.have in
    inside_answers c.counts_add_up.ensures.add_up c.counts_add_up.ensures.settled c.a_full_call_has_own_steps.ensures.full c.a_full_call_has_own_steps.ensures.held c.only_words_of_the_run_are_written.ensures.words
    table v p c.pass.inside.seat w root c.args.call compiled (arc_value c.pass.inside.live).filters version number done seat_is is c.pass.invariant.live h e.left e.stay c.pass.invariant.version_is refl e.matches e.counts))

pub returns-clause-memory : goal.returns-clause-memory
returns-clause-memory g c =
    let p : PassView = pass_view c.pass.inside.number c.pass.inside.seat.view (arc_value c.pass.inside.built).version c.pass.inside.home c.pass.inside.is_open in
    let table : TableName = g.N.HubName.table in
    let w = c.finish_inside-done.new.seat.view in
    let done = c.finish_inside-done.result in
    let e = c.finish_inside-done.ensures in
    let number : ℕ = c.pass.inside.number in
    let version : ℕ = c.pass.inside.version in
    let q : PassView = pass_view number w p.have p.home false in
    subst (λ r. OnErr r ((v : PassView) (root : Root) → HasTaken table v c.args.pass.now (Shared c.args.call) (events_of root) → Stays v q)) (sym c.answer.ensures)
    (err_inside ((v : PassView) (root : Root) → HasTaken table v c.args.pass.now (Shared c.args.call) (events_of root) → Stays v q) version number done (λ v root taken.
    let h : HasTaken table v p (Shared c.args.call) (events_of root) = subst (λ (y : PassView). HasTaken table v y (Shared c.args.call) (events_of root)) (sym c.pass.view_is) taken in
    stays_out table v p w c.args.call (events_of root) h e.left))
