use Rattle.std.proofs.Common.{◌<◌, ◌^◌, length}
use Rattle.px_text.specs.Nodes.{Root}
use Rattle.px_reader.specs.Spelling.{events_of}
use Rattle.px_workload.specs.declared.change.Change.{Change}
use Rattle.px_rule.specs.declared.view.View.{View}
use Rattle.px_rule.specs.Table.{bank_in, version_in}
use Rattle.px_call.specs.Calls.{HasFiltered, CountsAt, CountsOf}
use Rattle.px_call.specs.Laws.{KnowTheSame}
use Rattle.px_hub.specs.Entries.{IsRight}
use Rattle.px_hub.proofs.Entering.{ok_then, counts_left}
use Rattle.px_hub.proofs.entrance.finish_inside.Goals as goal

pub returns-clause-counts : goal.returns-clause-counts
returns-clause-counts c =
    let k = c.args.compiled.now in
    let b = c.args.call.began in
    let s = c.args.seat.now in
    let m = c.finish-done.new.seat.view in
    let w = c.leave.new.pass.view in
    ok_then (λ r. (root : Root) → length (events_of root) < 2 ^ 60 → HasFiltered IsRight k b s c.args.call (events_of root) → CountsOf IsRight k b m r.1 root)
    (λ r. (root : Root) (before : View Change) → length (events_of root) < 2 ^ 60 → HasFiltered IsRight k b s c.args.call (events_of root) → KnowTheSame before b.view
    → CountsAt IsRight b.table.shape (bank_in b.view.stay.place) (version_in b.view.stay.place) k before w r.1 (events_of root)) c.finish-done.result
    (λ r on root before long h same. counts_left c.counts_hold_outside.ensures.moved k b before m w r.1 root same c.leave.ensures.view (on root long h)) c.finish-done.ensures.counts
