use Rattle.std.proofs.Common.{◌≡◌, ◌+◌, ◌<◌, ◌^◌, ◌∷◌, ◌++◌, [], List, length, length-append, refl, sym, ap, ◌∙◌, subst}
use Rattle.std.specs.Arc.{arc_value}
use Rattle.px_reader.specs.declared.event.Event.{Event}
use Rattle.px_reader.specs.Happenings.{event_of}
use Rattle.px_afa.specs.Building.{Automata}
use Rattle.px_workload.specs.declared.change.Change.{Change}
use Rattle.px_rule.specs.declared.view.Stay.{Stay}
use Rattle.px_rule.specs.Table.{TableName, Seated}
use Rattle.px_hub.specs.declared.at_version.AtVersion.{AtVersion}
use Rattle.px_hub.specs.declared.engine.Engine.{Engine}
use Rattle.px_hub.specs.Passes.{PassView, pass_view}
use Rattle.px_hub.specs.Replying.{reached, program_of}
use Rattle.px_hub.specs.OpenCalls.{HasTaken, IsOpen, Has, seated}
use Rattle.px_hub.proofs.Gathered.{on_err}
use Rattle.px_hub.proofs.Opening.{pass_moves, compiled_of, is_for, has_taken, goes_on, still_open, stays_front, ok_on}
use Rattle.px_hub.proofs.hub.Hub.advance.Given as given
use Rattle.px_hub.proofs.hub.Hub.advance.Goals as goal

pub event-requires : goal.event-requires
event-requires g c =
    let p : PassView = pass_view c.pass.inside.number c.pass.inside.seat.view (arc_value c.pass.inside.built).version c.pass.inside.home c.pass.inside.is_open in
    let table : TableName = g.N.HubName.table in
    let e : Engine = c.call.inside.engine in
    let b = c.requires.begun in
    let v : PassView = b.0 in
    let given : List Event = b.1 in
    let h : HasTaken table v p e given = subst (λ (y : PassView × Engine). HasTaken table v y.0 y.1 given) (λ i. (sym c.pass.view_is i, sym c.call.view_is i)) b.2 in
    let compiled : Automata = c.deref-2.result.now in
    let is : v.have ≡ reached v → compiled ≡ program_of v = compiled_of v p (arc_value c.pass.inside.built) compiled h.opened.same c.pass.invariant.built refl (c.deref-2.ensures ∙ ap (λ (x : AtVersion). arc_value x.compiled) c.deref.ensures) in
    let seat_is : c.pass.inside.seat ≡ seated table p.view = λ i. seated (c.pass.invariant.at_table i) p.view in
    record {
      table = c.pass.invariant.at_table ∙ sym c.args.self.now.named;
      program = is_for table v p compiled e given is h;
      begun = (program_of v, given, subst (λ (s : Seated Change). Has (program_of v) compiled s e given) (sym seat_is) (has_taken table v p compiled e given is h), b.3);
    }

pub invariant_of-pass : goal.invariant_of-pass
invariant_of-pass g c =
    let p : PassView = pass_view c.pass.inside.number c.pass.inside.seat.view (arc_value c.pass.inside.built).version c.pass.inside.home c.pass.inside.is_open in
    let table : TableName = g.N.HubName.table in
    let e : Engine = c.call.inside.engine in
    let b = c.requires.begun in
    let v : PassView = b.0 in
    let given : List Event = b.1 in
    let h : HasTaken table v p e given = subst (λ (y : PassView × Engine). HasTaken table v y.0 y.1 given) (λ i. (sym c.pass.view_is i, sym c.call.view_is i)) b.2 in
    let w = c.event.new.seat.view in
    let m = stays_front table v p w e given h c.event.ensures.grew in
    pass_moves table c.pass.inside.seat.table c.event.new.seat.table g.N.HubName.passes c.pass.inside.version (arc_value c.pass.inside.live).filters (arc_value c.pass.inside.built) p w p.is_open [] c.pass.invariant
    (c.event.ensures.table ∙ c.pass.invariant.at_table) m.0 (ap (λ (s : Stay). s.stays) m.1) (ap (λ (s : Stay). s.busy) m.1) (λ closed. ap (λ (s : Stay). s.place) m.1 ∙ c.pass.invariant.outside closed)

pub returns-clause-ok : goal.returns-clause-ok
returns-clause-ok g c =
    let p : PassView = pass_view c.pass.inside.number c.pass.inside.seat.view (arc_value c.pass.inside.built).version c.pass.inside.home c.pass.inside.is_open in
    let table : TableName = g.N.HubName.table in
    let e : Engine = c.call.inside.engine in
    let e' : Engine = c.event.new.self in
    let w = c.event.new.seat.view in
    let q : PassView = pass_view p.number w p.have p.home p.is_open in
    let next : Event = event_of c.args.next in
    let compiled : Automata = c.deref-2.result.now in
    let seat_is : c.pass.inside.seat ≡ seated table p.view = λ i. seated (c.pass.invariant.at_table i) p.view in
    let now_is : c.event.new.seat ≡ seated table w = let t = c.event.ensures.table ∙ c.pass.invariant.at_table in λ i. seated (t i) w in
    ok_on ((automata : Automata) (given : List Event) → Has automata compiled c.pass.inside.seat e given → length given + 1 < 2 ^ 60 → Has automata compiled c.event.new.seat e' (given ++ next ∷ []))
    ((v : PassView) (given : List Event) → HasTaken table v c.args.pass.now c.args.call.now given → length given + 1 < 2 ^ 60 → HasTaken table v q e' (given ++ next ∷ [])) c.event.result
    (λ on v given taken few.
    let h : HasTaken table v p e given = subst (λ (y : PassView × Engine). HasTaken table v y.0 y.1 given) (λ i. (sym c.pass.view_is i, sym c.call.view_is i)) taken in
    let is : v.have ≡ reached v → compiled ≡ program_of v = compiled_of v p (arc_value c.pass.inside.built) compiled h.opened.same c.pass.invariant.built refl (c.deref-2.ensures ∙ ap (λ (x : AtVersion). arc_value x.compiled) c.deref.ensures) in
    let has = on (program_of v) given (subst (λ (s : Seated Change). Has (program_of v) compiled s e given) (sym seat_is) (has_taken table v p compiled e given is h)) few in
    goes_on table v p w compiled e e' given next is h few c.event.ensures.alike c.event.ensures.grew (subst (λ (s : Seated Change). Has (program_of v) compiled s e' (given ++ next ∷ [])) now_is has) (length-append given (next ∷ []))) c.event.ensures.ok

pub returns-clause-memory : goal.returns-clause-memory
returns-clause-memory g c =
    let p : PassView = pass_view c.pass.inside.number c.pass.inside.seat.view (arc_value c.pass.inside.built).version c.pass.inside.home c.pass.inside.is_open in
    let table : TableName = g.N.HubName.table in
    let e : Engine = c.call.inside.engine in
    let e' : Engine = c.event.new.self in
    let w = c.event.new.seat.view in
    let q : PassView = pass_view p.number w p.have p.home p.is_open in
    on_err c.event.result ((v : PassView) (given : List Event) → HasTaken table v c.args.pass.now c.args.call.now given → IsOpen v q e')
    (λ v given taken. still_open table v p w e e' given (subst (λ (y : PassView × Engine). HasTaken table v y.0 y.1 given) (λ i. (sym c.pass.view_is i, sym c.call.view_is i)) taken) c.event.ensures.alike c.event.ensures.grew)
