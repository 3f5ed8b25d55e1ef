use Rattle.std.proofs.Common.{◌≡◌, [], refl, subst, sym}
use Rattle.px_rule.specs.Table.{TableName}
use Rattle.px_hub.specs.Passes.{PassView}
use Rattle.px_hub.specs.Replying.{Stays, program_of}
use Rattle.px_hub.specs.declared.server.Server.{Server}
use Rattle.px_hub.specs.OpenCalls.{HasTaken, IsServer, BeginsAlone, opened}
use Rattle.px_hub.proofs.Entering.{err_then}
use Rattle.px_hub.proofs.Gathered.{on_err}
use Rattle.px_hub.proofs.Opening.{stays_same, same_pass, alone_begins, ok_both}
use Rattle.px_hub.proofs.hub.Hub.begin.Goals as goal

pub returns-in_err-server-clause-memory : goal.returns-in_err-server-clause-memory
returns-in_err-server-clause-memory g c = on_err c.from_residual.result (Stays c.args.pass.now c.args.pass.now) (stays_same c.args.pass.now c.requires c.is_in_no_bank.ensures)

pub begin_at-requires : goal.begin_at-requires
begin_at-requires g c = let v : PassView = c.args.pass.now in record { closed = c.requires; server = subst (λ (s : Server). IsServer v s) c.in-Bank.is c.in_ok-server.ensures }

pub returns-in-Nobody-clause-call : goal.returns-in-Nobody-clause-call
returns-in-Nobody-clause-call g c =
    let table : TableName = g.N.HubName.table in
    let v : PassView = c.args.pass.now in
    let w : PassView = c.begin_alone.new.self in
    ok_both (w ≡ opened v) (λ call. BeginsAlone (program_of v) c.in-Nobody.why call) (λ call. HasTaken table v w call []) c.begin_alone.result
    (λ call is begins. alone_begins table v v w c.in-Nobody.why call (same_pass v v.is_open) refl c.is_in_no_bank.ensures (subst (λ (s : Server). IsServer v s) c.in-Nobody.is c.in_ok-server.ensures) is begins) c.begin_alone.ensures.pass c.begin_alone.ensures.call

pub returns-in-Nobody-clause-memory : goal.returns-in-Nobody-clause-memory
returns-in-Nobody-clause-memory g c =
    let v : PassView = c.args.pass.now in
    let w : PassView = c.begin_alone.new.self in
    err_then (w ≡ v) (Stays v w) c.begin_alone.result (λ is. subst (λ (x : PassView). Stays v x) (sym is) (stays_same v c.requires c.is_in_no_bank.ensures)) c.begin_alone.ensures.memory
