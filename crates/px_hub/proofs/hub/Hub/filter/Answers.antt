use Rattle.std.proofs.Common.{ℕ, List, subst}
use Rattle.px_hub.specs.Replying.{Filters}
use Rattle.px_hub.proofs.Opening.{stays_same}
use Rattle.px_hub.proofs.Refusing.{refuses}
use Rattle.px_hub.proofs.hub.Hub.filter.Goals as goal

pub returns-in-Ok : goal.returns-in-Ok
returns-in-Ok g c = subst (λ (l : List ℕ). Filters g.N.HubName.table.shape c.args.pass.now c.filter_read.new.pass l c.filter_read.result) c.in-Ok.ensures.doc c.filter_read.ensures

pub returns-in-Err : goal.returns-in-Err
returns-in-Err g c = let v = c.args.pass.now in refuses g.N.HubName.table.shape v c.args.document.now c.in-Err.fault (stays_same v c.requires c.is_in_no_bank.ensures) c.in-Err.ensures.fault
