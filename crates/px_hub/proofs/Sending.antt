-- What of a hub may go to other threads, and be shared by them.
--     live_send, live_sync, at_version_send, at_version_sync, desk_send      what a pass and a hub hold
--     pass_send, note_send, hub_send, hub_sync       the tokens of callers, and the hub itself
use denote.RattleType.{RattleType}
use denote.Param.Send.{IsSend, IsSync, sendable}
use Rattle.std.proofs.Crossing.{crosses}
use Rattle.px_xpath.proofs.filter.Cond.TheLaws.TheKnot as knot
use Rattle.px_workload.proofs.past.Past.TheSendSync as past
use Rattle.px_afa.proofs.program.Program.TheSendSync as program
use Rattle.px_prune.proofs.compiled.Compiled.TheSendSync as compiled
use Rattle.px_rule.proofs.shared.Seat.TheSendSync as seat
use Rattle.px_rule.proofs.shared.Shared.TheSendSync as shared
use Rattle.px_workload.specs.contracts.journal.Journal as journal
use Rattle.px_workload.specs.contracts.live.Live as live
use Rattle.px_hub.specs.declared.name.HubName.{Ghosts}
use Rattle.px_hub.specs.contracts.at_version.AtVersion as at_version
use Rattle.px_hub.specs.contracts.desk.Desk as desk
use Rattle.px_hub.specs.contracts.hub.Hub as hub
use Rattle.px_hub.specs.contracts.note.Note as note
use Rattle.px_hub.specs.contracts.pass.Pass as pass

live_send : IsSend live.the_row
live_send = search (sendable, crosses, knot.send-Path, knot.sync-Path) depth 40

live_sync : IsSync live.the_row
live_sync = search (sendable, crosses, knot.send-Path, knot.sync-Path) depth 40

journal_send : IsSend journal.the_row
journal_send = search (sendable, crosses, knot.send-Path, knot.sync-Path, past.the_send) depth 40

at_version_send : IsSend at_version.the_row
at_version_send = search (sendable, crosses, live_send, live_sync, program.the_send, program.the_sync, compiled.the_send, compiled.the_sync) depth 40

at_version_sync : IsSync at_version.the_row
at_version_sync = search (sendable, crosses, live_send, live_sync, program.the_send, program.the_sync, compiled.the_send, compiled.the_sync) depth 40

module _ (N : RattleType) (g : Ghosts N.Denot) where
  pub pass_send : IsSend (pass.the_row N g)
  pass_send = search (sendable, crosses, seat.the_send, live_send, live_sync, at_version_send, at_version_sync) depth 40

  pub note_send : IsSend (note.the_row N g)
  note_send = search (sendable, crosses, seat.the_send, live_send, live_sync) depth 40

  desk_send : IsSend (desk.the_row N g)
  desk_send = search (sendable, crosses, journal_send, seat.the_send, at_version_send, at_version_sync) depth 40

  pub hub_send : IsSend (hub.the_row N g)
  hub_send = search (sendable, crosses, shared.the_send, desk_send) depth 40

  pub hub_sync : IsSync (hub.the_row N g)
  hub_sync = search (sendable, crosses, shared.the_sync, desk_send) depth 40
