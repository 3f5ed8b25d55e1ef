use Rattle.std.proofs.Common.{sym, subst}
use Rattle.px_session.specs.Sessions.{SessionView, Follows}
use Rattle.px_session.proofs.Staged.{runs, stopped_with, refused_now, stays}
use Rattle.px_session.proofs.session.Session.abandon.Goals as goal

pub abandon-requires : goal.abandon-requires
abandon-requires g c =
    let i = c.self.invariant in
    let m = runs g.N.HubName.table i.0 c.self.inside.pass c.self.inside.reader c.self.inside.stage c.in-Ok.call i.1 c.in-Ok.is i.2 in
    record { begun = (i.0, m.1.taken.opened) }

pub returns-in-Ok : goal.returns-in-Ok
returns-in-Ok g c = λ v bytes follows.
    let f = subst (λ (s : SessionView). Follows g.N.HubName.table v s bytes) (sym c.self.view_is) follows in
    let m = runs g.N.HubName.table v c.self.inside.pass c.self.inside.reader c.self.inside.stage c.in-Ok.call bytes c.in-Ok.is f in
    c.abandon.ensures.stays v m.1.taken.opened

pub returns-in-Err : goal.returns-in-Err
returns-in-Err g c = λ v bytes follows.
    let f = subst (λ (s : SessionView). Follows g.N.HubName.table v s bytes) (sym c.self.view_is) follows in
    let z = g.N.HubName.table.shape in
    let r = stopped_with g.N.HubName.table v c.self.inside.pass c.self.inside.reader c.self.inside.stage c.in-Err.field-0 bytes c.in-Err.is f in
    stays z v c.self.inside.pass bytes c.in-Err.field-0 (refused_now z v c.self.inside.pass bytes c.in-Err.field-0 r)
