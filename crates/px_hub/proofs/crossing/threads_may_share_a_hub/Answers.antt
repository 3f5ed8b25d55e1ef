use Rattle.px_hub.proofs.Sending.{pass_send, note_send, hub_send, hub_sync}
use Rattle.px_hub.proofs.crossing.threads_may_share_a_hub.Goals as goal

pub returns-clause-pass : goal.returns-clause-pass
returns-clause-pass g c = search pass_send

pub returns-clause-note : goal.returns-clause-note
returns-clause-note g c = search note_send

pub returns-clause-hub : goal.returns-clause-hub
returns-clause-hub g c = search hub_send

pub returns-clause-shared : goal.returns-clause-shared
returns-clause-shared g c = search hub_sync
