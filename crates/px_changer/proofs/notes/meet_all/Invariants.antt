-- Those before this one have met a note.
use Rattle.std.proofs.Common.{◌≡◌}
use Rattle.px_hub.specs.Calls.{seen_of}
use Rattle.px_changer.proofs.Meetings.{Sofar}
use Rattle.px_changer.proofs.notes.meet_all.Given as goal

abbrev pub invariant-loop-at : goal.invariant-loop-at
invariant-loop-at g l = (l.first ≡ l.initial.first) × Sofar (seen_of l.initial.first) l.at l.initial.others l.others
