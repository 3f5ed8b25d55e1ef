use Rattle.std.proofs.Common.{subst}
use Rattle.px_reader.specs.Reading.{IsClosed, IsStillOpen}
use Rattle.px_session.specs.Sessions.{SessionView}
use Rattle.px_session.proofs.session.Session.is_behind_root.Goals as goal

pub returns-clause-closed : goal.returns-clause-closed
returns-clause-closed g c = λ t. subst (λ (s : SessionView). IsClosed s.reader) c.self.view_is (c.is_behind_root.ensures.closed t)

pub returns-clause-open : goal.returns-clause-open
returns-clause-open g c = λ t. subst (λ (s : SessionView). IsStillOpen s.reader) c.self.view_is (c.is_behind_root.ensures.open t)
