use Rattle.std.proofs.Common.{◌≡◌, [], List, sym, subst}
use Rattle.px_text.specs.Nodes.{Root}
use Rattle.px_reader.specs.declared.event.Event.{Event}
use Rattle.px_reader.specs.Spelling.{events_of}
use Rattle.px_rule.specs.Table.{TableName}
use Rattle.px_hub.specs.Passes.{PassView}
use Rattle.px_hub.specs.Replying.{Replies, Stays}
use Rattle.px_hub.specs.OpenCalls.{HasTaken}
use Rattle.px_hub.proofs.Entering.{ok_then, err_then}
use Rattle.px_hub.proofs.Gathered.{on_err}
use Rattle.px_hub.proofs.hub.Hub.filter_events.Goals as goal

pub returns-in_err-call-clause-memory : goal.returns-in_err-call-clause-memory
returns-in_err-call-clause-memory g c = on_err c.from_residual.result (Stays c.args.pass.now c.begin.new.pass) c.in_err-call.ensures.memory

pub advance_all-requires : goal.advance_all-requires
advance_all-requires g c = record { begun = (c.args.pass.now, c.in_ok-call.ensures.call); few = c.requires.few }

pub finish-requires : goal.finish-requires
finish-requires g c =
    let v : PassView = c.args.pass.now in
    let t = c.requires.tree in
    record { whole = (v, t.0, subst (λ (l : List Event). HasTaken g.N.HubName.table v c.advance_all.new.pass c.advance_all.new.call l) t.1 (c.in-Ok.ensures.ok v c.in_ok-call.ensures.call)) }

pub abandon-requires : goal.abandon-requires
abandon-requires g c = let v : PassView = c.args.pass.now in record { begun = (v, c.in-Err.ensures.memory v c.in_ok-call.ensures.call) }

pub returns-in-Ok-clause-reply : goal.returns-in-Ok-clause-reply
returns-in-Ok-clause-reply g c =
    let table : TableName = g.N.HubName.table in
    let v : PassView = c.args.pass.now in
    let p : PassView = c.advance_all.new.pass in
    let w : PassView = c.finish.new.pass in
    ok_then (λ reply. (o : PassView) (root : Root) → HasTaken table o p c.advance_all.new.call (events_of root) → Replies table.shape o w root reply) (λ reply. (root : Root) → c.args.events.now ≡ events_of root → Replies table.shape v w root reply) c.finish.result
    (λ reply on root is. on v root (subst (λ (l : List Event). HasTaken table v p c.advance_all.new.call l) is (c.in-Ok.ensures.ok v c.in_ok-call.ensures.call))) c.finish.ensures.reply

pub returns-in-Ok-clause-memory : goal.returns-in-Ok-clause-memory
returns-in-Ok-clause-memory g c =
    let table : TableName = g.N.HubName.table in
    let v : PassView = c.args.pass.now in
    let p : PassView = c.advance_all.new.pass in
    let w : PassView = c.finish.new.pass in
    let t = c.requires.tree in
    err_then ((o : PassView) (root : Root) → HasTaken table o p c.advance_all.new.call (events_of root) → Stays o w) (Stays v w) c.finish.result
    (λ on. on v t.0 (subst (λ (l : List Event). HasTaken table v p c.advance_all.new.call l) t.1 (c.in-Ok.ensures.ok v c.in_ok-call.ensures.call))) c.finish.ensures.memory

pub returns-in-Err-clause-memory : goal.returns-in-Err-clause-memory
returns-in-Err-clause-memory g c = let v : PassView = c.args.pass.now in c.abandon.ensures.stays v (c.in-Err.ensures.memory v c.in_ok-call.ensures.call)
