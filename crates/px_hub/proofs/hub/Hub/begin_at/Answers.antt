use Rattle.std.proofs.Common.{◌≡◌, ◌<◌, ℕ, true, false, [], ◌∷◌, refl, sym, ap, ◌∙◌, subst}
use Rattle.std.specs.Prelude.{IfOk, OnOk, OnErr}
use Rattle.std.specs.Arc.{arc_value}
use Rattle.px_afa.specs.Building.{Automata}
use Rattle.px_workload.specs.declared.change.Change.{Change}
use Rattle.px_rule.specs.declared.view.Kind.{Kind}
use Rattle.px_rule.specs.declared.view.View.{View}
use Rattle.px_rule.specs.Rule.{is_pass}
use Rattle.px_rule.specs.Table.{TableName, Seated}
use Rattle.px_hub.specs.declared.at_version.AtVersion.{AtVersion}
use Rattle.px_hub.specs.declared.engine.Engine.{Engine}
use Rattle.px_hub.specs.declared.engine.Engine.TheVariants.{Shared}
use Rattle.px_hub.specs.declared.entrance.Entrance.{Entrance}
use Rattle.px_hub.specs.declared.home.Home.TheVariants as home
use Rattle.px_hub.specs.declared.reply.Why.TheVariants.{Gone}
use Rattle.px_hub.specs.Passes.{PassView, pass_view}
use Rattle.px_hub.specs.Replying.{Stays, reached, program_of}
use Rattle.px_hub.specs.OpenCalls.{HasTaken, BeginsAlone, EntranceGives, seated, opened}
use Rattle.px_hub.proofs.Entering.{err_then}
use Rattle.px_hub.proofs.Gathered.{on_err}
use Rattle.px_hub.proofs.Opening.{pass_moves, program_is, bank_is, stays_left, stays_missed, inside_begins, entered_moved, gone_cause, alone_begins, ok_both}
use Rattle.px_hub.proofs.hub.Hub.begin_at.Goals as goal

pub begin_at-requires : goal.begin_at-requires
begin_at-requires g c =
    let p : PassView = pass_view c.pass.inside.number c.pass.inside.seat.view (arc_value c.pass.inside.built).version c.pass.inside.home c.pass.inside.is_open in
    let table : TableName = g.N.HubName.table in
    let bank : ℕ = c.args.bank in
    let served = subst (λ (v : PassView). (v.have ≡ reached v) × (v.home ≡ home.Bank bank)) (sym c.pass.view_is) c.requires.server in
    let named = c.args.self.now.named in
    let at = bank_is table.shape.banks p.number p.have p.view p.home bank served.1 c.pass.invariant.home in
    record {
      table = c.pass.invariant.at_table ∙ sym named;
      bank = subst (λ (t : TableName). bank < t.shape.banks) (sym named) at.0;
      pass = ap is_pass c.pass.invariant.kind;
      outside = c.pass.invariant.outside (ap (λ (v : PassView). v.is_open) c.pass.view_is ∙ c.requires.closed);
      version = c.pass.invariant.version_is;
      program = c.deref-2.ensures ∙ (ap (λ (x : AtVersion). arc_value x.compiled) c.deref.ensures ∙ (program_is p.view.past.seen (arc_value c.pass.inside.built) served.0 c.pass.invariant.built).1);
    }

pub invariant_of-pass : goal.invariant_of-pass
invariant_of-pass g c =
    let p : PassView = pass_view c.pass.inside.number c.pass.inside.seat.view (arc_value c.pass.inside.built).version c.pass.inside.home c.pass.inside.is_open in
    let l = c.in_err-entrance.ensures.memory in
    pass_moves g.N.HubName.table c.pass.inside.seat.table c.begin_at.new.seat.table g.N.HubName.passes c.pass.inside.version (arc_value c.pass.inside.live).filters (arc_value c.pass.inside.built) p c.begin_at.new.seat.view p.is_open l.front c.pass.invariant
    (c.begin_at.ensures.table ∙ c.pass.invariant.at_table) l.past l.stays l.busy (λ _. l.place)

pub returns-in_err-entrance-clause-memory : goal.returns-in_err-entrance-clause-memory
returns-in_err-entrance-clause-memory g c =
    let p : PassView = pass_view c.pass.inside.number c.pass.inside.seat.view (arc_value c.pass.inside.built).version c.pass.inside.home c.pass.inside.is_open in
    let w = c.begin_at.new.seat.view in
    let closed = ap (λ (v : PassView). v.is_open) c.pass.view_is ∙ c.requires.closed in
    let q : PassView = pass_view p.number w p.have p.home p.is_open in
    on_err c.from_residual.result (Stays c.args.pass.now q) (subst (λ (v : PassView). Stays v q) c.pass.view_is (stays_left p w p.is_open closed c.in_err-entrance.ensures.memory))

pub invariant_of-pass-in-Inside : goal.invariant_of-pass-in-Inside
invariant_of-pass-in-Inside g c =
    let p : PassView = pass_view c.pass.inside.number c.pass.inside.seat.view (arc_value c.pass.inside.built).version c.pass.inside.home c.pass.inside.is_open in
    let compiled : Automata = c.deref-2.result.now in
    let gives = subst (λ (e : Entrance). EntranceGives c.args.bank c.pass.inside.version compiled c.pass.inside.seat c.begin_at.new.seat e) c.in-Inside.is c.in_ok-entrance.ensures.entrance in
    let m = entered_moved c.args.bank c.pass.inside.version compiled c.pass.inside.seat c.begin_at.new.seat c.in-Inside.call gives in
    pass_moves g.N.HubName.table c.pass.inside.seat.table c.begin_at.new.seat.table g.N.HubName.passes c.pass.inside.version (arc_value c.pass.inside.live).filters (arc_value c.pass.inside.built) p c.begin_at.new.seat.view true
    ((c.args.bank, c.pass.inside.version) ∷ []) c.pass.invariant (c.begin_at.ensures.table ∙ c.pass.invariant.at_table) m.0 m.1 m.2 (λ e. absurd (cc))

pub returns-in-Inside-clause-call : goal.returns-in-Inside-clause-call
returns-in-Inside-clause-call g c =
    let p : PassView = pass_view c.pass.inside.number c.pass.inside.seat.view (arc_value c.pass.inside.built).version c.pass.inside.home c.pass.inside.is_open in
    let table : TableName = g.N.HubName.table in
    let bank : ℕ = c.args.bank in
    let served = subst (λ (v : PassView). (v.have ≡ reached v) × (v.home ≡ home.Bank bank)) (sym c.pass.view_is) c.requires.server in
    let compiled : Automata = c.deref-2.result.now in
    let gives = subst (λ (e : Entrance). EntranceGives bank c.pass.inside.version compiled c.pass.inside.seat c.begin_at.new.seat e) c.in-Inside.is c.in_ok-entrance.ensures.entrance in
    let seat_is : c.pass.inside.seat ≡ seated table p.view = λ i. seated (c.pass.invariant.at_table i) p.view in
    let compiled_is : compiled ≡ program_of p = c.deref-2.ensures ∙ (ap (λ (x : AtVersion). arc_value x.compiled) c.deref.ensures ∙ (program_is p.view.past.seen (arc_value c.pass.inside.built) served.0 c.pass.invariant.built).1) in
    let begun = inside_begins table p c.pass.inside.seat c.begin_at.new.seat bank c.pass.inside.version compiled c.in-Inside.call seat_is (c.begin_at.ensures.table ∙ c.pass.invariant.at_table) c.pass.invariant.version_is served.0 served.1 compiled_is gives in
    let q : PassView = pass_view p.number c.begin_at.new.seat.view p.have p.home true in
    subst (λ (y : PassView × Engine). HasTaken table y.0 q y.1 []) (λ i. (c.pass.view_is i, sym c.of.ensures i)) begun

pub invariant_of-pass-in-Gone : goal.invariant_of-pass-in-Gone
invariant_of-pass-in-Gone g c =
    let p : PassView = pass_view c.pass.inside.number c.pass.inside.seat.view (arc_value c.pass.inside.built).version c.pass.inside.home c.pass.inside.is_open in
    let compiled : Automata = c.deref-2.result.now in
    let gives = subst (λ (e : Entrance). EntranceGives c.args.bank c.pass.inside.version compiled c.pass.inside.seat c.begin_at.new.seat e) c.in-Gone.is c.in_ok-entrance.ensures.entrance in
    pass_moves g.N.HubName.table c.pass.inside.seat.table c.begin_at.new.seat.table g.N.HubName.passes c.pass.inside.version (arc_value c.pass.inside.live).filters (arc_value c.pass.inside.built) p c.begin_at.new.seat.view p.is_open [] c.pass.invariant
    (c.begin_at.ensures.table ∙ c.pass.invariant.at_table) (ap (λ (v : View Change). v.past) gives.0) (ap (λ (v : View Change). v.stay.stays) gives.0) (ap (λ (v : View Change). v.stay.busy) gives.0) (λ _. ap (λ (v : View Change). v.stay.place) gives.0)

pub returns-in-Gone-clause-call : goal.returns-in-Gone-clause-call
returns-in-Gone-clause-call g c =
    let p : PassView = pass_view c.pass.inside.number c.pass.inside.seat.view (arc_value c.pass.inside.built).version c.pass.inside.home c.pass.inside.is_open in
    let table : TableName = g.N.HubName.table in
    let bank : ℕ = c.args.bank in
    let served = subst (λ (v : PassView). (v.have ≡ reached v) × (v.home ≡ home.Bank bank)) (sym c.pass.view_is) c.requires.server in
    let compiled : Automata = c.deref-2.result.now in
    let word : ℕ = c.in-Gone.word in
    let gives = subst (λ (e : Entrance). EntranceGives bank c.pass.inside.version compiled c.pass.inside.seat c.begin_at.new.seat e) c.in-Gone.is c.in_ok-entrance.ensures.entrance in
    let u : PassView = pass_view p.number c.begin_at.new.seat.view p.have p.home p.is_open in
    let w : PassView = c.begin_alone.new.self in
    let cause = gone_cause p u c.pass.inside.seat c.begin_at.new.seat bank c.pass.inside.version table.shape.banks word compiled refl refl c.pass.invariant.version_is served.0 served.1 c.pass.invariant.home gives in
    ok_both (w ≡ opened u) (λ call. BeginsAlone (program_of u) (Gone word) call) (λ call. HasTaken table c.args.pass.now w call []) c.begin_alone.result
    (λ call is begins. subst (λ (v : PassView). HasTaken table v w call []) c.pass.view_is (alone_begins table p u w (Gone word) call cause.0 cause.1 cause.2 cause.3 is begins)) c.begin_alone.ensures.pass c.begin_alone.ensures.call

pub returns-in-Gone-clause-memory : goal.returns-in-Gone-clause-memory
returns-in-Gone-clause-memory g c =
    let p : PassView = pass_view c.pass.inside.number c.pass.inside.seat.view (arc_value c.pass.inside.built).version c.pass.inside.home c.pass.inside.is_open in
    let table : TableName = g.N.HubName.table in
    let bank : ℕ = c.args.bank in
    let served = subst (λ (v : PassView). (v.have ≡ reached v) × (v.home ≡ home.Bank bank)) (sym c.pass.view_is) c.requires.server in
    let compiled : Automata = c.deref-2.result.now in
    let word : ℕ = c.in-Gone.word in
    let gives = subst (λ (e : Entrance). EntranceGives bank c.pass.inside.version compiled c.pass.inside.seat c.begin_at.new.seat e) c.in-Gone.is c.in_ok-entrance.ensures.entrance in
    let u : PassView = pass_view p.number c.begin_at.new.seat.view p.have p.home p.is_open in
    let w : PassView = c.begin_alone.new.self in
    let cause = gone_cause p u c.pass.inside.seat c.begin_at.new.seat bank c.pass.inside.version table.shape.banks word compiled refl refl c.pass.invariant.version_is served.0 served.1 c.pass.invariant.home gives in
    let closed = ap (λ (v : PassView). v.is_open) c.pass.view_is ∙ c.requires.closed in
    err_then (w ≡ u) (Stays c.args.pass.now w) c.begin_alone.result (λ is. subst (λ (y : PassView × PassView). Stays y.0 y.1) (λ i. (c.pass.view_is i, sym is i)) (stays_missed p u closed cause.0 cause.2)) c.begin_alone.ensures.memory
