use Rattle.std.proofs.Common.{◌≡◌}
use Rattle.px_hub.proofs.Gathered.{Sofar}
use Rattle.px_hub.proofs.desk.Desk.refresh_all.Given as goal

abbrev pub invariant-loop-at : goal.invariant-loop-at
invariant-loop-at g l =
    (l.self.past.seen ≡ l.initial.self.past.seen) × Sofar g.N.HubName.table.shape.banks g.N.HubName.passes l.initial.self.past.seen l.at l.initial.passes l.passes
