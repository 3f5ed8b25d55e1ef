use Rattle.std.proofs.Common.{sym, subst}
use Rattle.px_session.specs.Sessions.{SessionView, Follows, HasStopped}
use Rattle.px_session.proofs.session.Session.end.Goals as goal

pub conclude-answer-requires : goal.conclude-answer-requires
conclude-answer-requires g c = c.self.invariant

pub returns-clause-answer : goal.returns-clause-answer
returns-clause-answer g c = λ v bytes follows. c.conclude-answer.ensures.answer v bytes (subst (λ (s : SessionView). Follows g.N.HubName.table v s bytes) (sym c.self.view_is) follows)

pub returns-clause-stopped : goal.returns-clause-stopped
returns-clause-stopped g c = λ v bytes fault stop.
    let s = subst (λ (s : SessionView). HasStopped g.N.HubName.table v s bytes fault) (sym c.self.view_is) stop in
    c.conclude-answer.ensures.stopped fault s.stopped
