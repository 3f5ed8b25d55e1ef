-- What the workers of a batch share.
use denote.Param.Send.{IsSync, sendable}
use Rattle.std.proofs.Crossing.{crosses}
use Rattle.px_crew.proofs.draws.Draws.TheSendSync as draws
use Rattle.px_crew.specs.contracts.draws.Draws as the_draws
use Rattle.px_reader.specs.contracts.doc.Doc as doc

pub draws_sync : IsSync the_draws.the_row
draws_sync = draws.the_sync

pub doc_sync : IsSync doc.the_row
doc_sync = search (sendable, crosses) depth 40
