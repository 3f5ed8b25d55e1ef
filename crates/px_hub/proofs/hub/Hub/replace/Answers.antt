use Rattle.px_hub.proofs.Adding.{replaced}
use Rattle.px_hub.proofs.hub.Hub.replace.Goals as goal

pub returns-in-Ok : goal.returns-in-Ok
returns-in-Ok g c = replaced c.args.filter.now c.args.id c.in-Ok.filter c.args.pass.now c.replace.new.pass c.replace.result c.in-Ok.ensures c.replace.ensures
