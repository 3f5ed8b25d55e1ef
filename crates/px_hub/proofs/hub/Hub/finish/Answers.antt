use Rattle.std.proofs.Common.{◌≡◌, sym, ◌∙◌, subst}
use Rattle.px_text.specs.Nodes.{Root}
use Rattle.px_reader.specs.Spelling.{events_of}
use Rattle.px_rule.specs.Table.{TableName}
use Rattle.px_hub.specs.declared.engine.Engine.{Engine}
use Rattle.px_hub.specs.declared.engine.Engine.TheVariants.{Private, Shared}
use Rattle.px_hub.specs.Passes.{PassView}
use Rattle.px_hub.specs.Replying.{Replies, Stays}
use Rattle.px_hub.specs.OpenCalls.{HasTaken, closed}
use Rattle.px_hub.proofs.Entering.{ok_then, err_then}
use Rattle.px_hub.proofs.Ending.{stays_closed}
use Rattle.px_hub.proofs.hub.Hub.finish.Goals as goal

pub finish_alone-requires : goal.finish_alone-requires
finish_alone-requires g c =
    let h = c.requires.whole in
    record { whole = (h.0, h.1, subst (λ (e : Engine). HasTaken g.N.HubName.table h.0 c.args.pass.now e (events_of h.1)) (sym c.into_engine.ensures ∙ c.in-Private.is) h.2) }

pub finish_inside-requires : goal.finish_inside-requires
finish_inside-requires g c =
    let h = c.requires.whole in
    record { whole = (h.0, h.1, subst (λ (e : Engine). HasTaken g.N.HubName.table h.0 c.args.pass.now e (events_of h.1)) (sym c.into_engine.ensures ∙ c.in-Shared.is) h.2) }

pub returns-in-Private-clause-reply : goal.returns-in-Private-clause-reply
returns-in-Private-clause-reply g c =
    let table : TableName = g.N.HubName.table in
    let p : PassView = c.args.pass.now in
    let w : PassView = c.finish_alone.new.self in
    ok_then (λ reply. (v : PassView) (root : Root) → HasTaken table v p (Private c.in-Private.lone c.in-Private.why) (events_of root) → Replies table.shape v w root reply)
    (λ reply. (v : PassView) (root : Root) → HasTaken table v p c.args.call (events_of root) → Replies table.shape v w root reply) c.finish_alone.result
    (λ reply on v root h. on v root (subst (λ (e : Engine). HasTaken table v p e (events_of root)) (sym c.into_engine.ensures ∙ c.in-Private.is) h)) c.finish_alone.ensures.reply

pub returns-in-Private-clause-memory : goal.returns-in-Private-clause-memory
returns-in-Private-clause-memory g c =
    let table : TableName = g.N.HubName.table in
    let p : PassView = c.args.pass.now in
    let w : PassView = c.finish_alone.new.self in
    err_then (w ≡ closed p) ((v : PassView) (root : Root) → HasTaken table v p c.args.call (events_of root) → Stays v w) c.finish_alone.result
    (λ is v root h.
    let t : HasTaken table v p (Private c.in-Private.lone c.in-Private.why) (events_of root) = subst (λ (e : Engine). HasTaken table v p e (events_of root)) (sym c.into_engine.ensures ∙ c.in-Private.is) h in
    subst (λ (x : PassView). Stays v x) (sym is) (stays_closed v p t.opened.same t.opened.stands)) c.finish_alone.ensures.memory

pub returns-in-Shared-clause-reply : goal.returns-in-Shared-clause-reply
returns-in-Shared-clause-reply g c =
    let table : TableName = g.N.HubName.table in
    let p : PassView = c.args.pass.now in
    let w : PassView = c.finish_inside.new.pass in
    ok_then (λ reply. (v : PassView) (root : Root) → HasTaken table v p (Shared c.in-Shared.call) (events_of root) → Replies table.shape v w root reply)
    (λ reply. (v : PassView) (root : Root) → HasTaken table v p c.args.call (events_of root) → Replies table.shape v w root reply) c.finish_inside.result
    (λ reply on v root h. on v root (subst (λ (e : Engine). HasTaken table v p e (events_of root)) (sym c.into_engine.ensures ∙ c.in-Shared.is) h)) c.finish_inside.ensures.reply

pub returns-in-Shared-clause-memory : goal.returns-in-Shared-clause-memory
returns-in-Shared-clause-memory g c =
    let table : TableName = g.N.HubName.table in
    let p : PassView = c.args.pass.now in
    let w : PassView = c.finish_inside.new.pass in
    err_then ((v : PassView) (root : Root) → HasTaken table v p (Shared c.in-Shared.call) (events_of root) → Stays v w) ((v : PassView) (root : Root) → HasTaken table v p c.args.call (events_of root) → Stays v w) c.finish_inside.result
    (λ on v root h. on v root (subst (λ (e : Engine). HasTaken table v p e (events_of root)) (sym c.into_engine.ensures ∙ c.in-Shared.is) h)) c.finish_inside.ensures.memory
