use Rattle.std.proofs.Common.{◌++◌, ap, sym, ◌∙◌, subst}
use Rattle.std.specs.Prelude.{Result}
use Rattle.px_reader.specs.declared.fault.ReaderFault.{ReaderFault}
use Rattle.px_hub.specs.declared.engine.Engine.{Engine}
use Rattle.px_session.specs.Sessions.{SessionView, Follows, HasStopped, session_view}
use Rattle.px_session.specs.Taking.{told}
use Rattle.px_session.proofs.Staged.{followed, fed_ok, fed_err}
use Rattle.px_session.proofs.session.Session.feed.Goals as goal

pub go_on-requires : goal.go_on-requires
go_on-requires g c =
    let i = c.self.invariant in
    (i.0, i.1, subst (λ (st : Result Engine ReaderFault). Follows g.N.HubName.table i.0 (session_view c.self.inside.pass c.self.inside.reader st) i.1) (sym c.replace-stage.ensures.value) i.2)

pub invariant_of-self : goal.invariant_of-self
invariant_of-self g c =
    let i = c.self.invariant in
    let f = subst (λ (st : Result Engine ReaderFault). Follows g.N.HubName.table i.0 (session_view c.self.inside.pass c.self.inside.reader st) i.1) (sym c.replace-stage.ensures.value) i.2 in (
      i.0,
      i.1 ++ c.args.piece.now,
      followed g.N.HubName.table i.0 (session_view c.self.inside.pass c.self.inside.reader c.replace-stage.result) (session_view c.go_on.new.pass c.go_on.new.reader c.go_on.result)
          i.1 c.args.piece.now c.go_on.result c.go_on.ensures.ok c.go_on.ensures.fault (λ fault stop. c.go_on.ensures.stays fault stop.stopped) f,
    )

pub returns-clause-ok : goal.returns-clause-ok
returns-clause-ok g c =
    fed_ok g.N.HubName.table c.self.inside.pass c.self.inside.reader c.self.inside.stage c.replace-stage.result c.args.self.now (session_view c.go_on.new.pass c.go_on.new.reader c.go_on.result)
    c.args.piece.now c.go_on.result c.told.result c.self.view_is c.replace-stage.ensures.value c.told.ensures c.go_on.ensures.ok

pub returns-clause-fault : goal.returns-clause-fault
returns-clause-fault g c =
    fed_err g.N.HubName.table c.self.inside.pass c.self.inside.reader c.self.inside.stage c.replace-stage.result c.args.self.now (session_view c.go_on.new.pass c.go_on.new.reader c.go_on.result)
    c.args.piece.now c.go_on.result c.told.result c.self.view_is c.replace-stage.ensures.value c.told.ensures c.go_on.ensures.fault

pub returns-clause-stays : goal.returns-clause-stays
returns-clause-stays g c = λ v bytes fault stop.
    let s = subst (λ (x : SessionView). HasStopped g.N.HubName.table v x bytes fault) (sym c.self.view_is) stop in
    c.told.ensures ∙ ap told (c.go_on.ensures.stays fault (c.replace-stage.ensures.value ∙ s.stopped))
