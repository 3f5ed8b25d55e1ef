use Rattle.std.proofs.Common.{◌∙◌}
use Rattle.px_pool.proofs.Staying.{stays_same}
use Rattle.px_pool.proofs.batches.stand.Goals as goal

pub returns : goal.returns
returns g c = stays_same c.args.pass.now c.requires.closed (c.is_open.ensures.outside (c.is_open.ensures.open ∙ c.requires.closed))
