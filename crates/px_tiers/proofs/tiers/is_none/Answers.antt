-- A list without length is empty.
use Rattle.px_tiers.proofs.Settling.{none_from}
use Rattle.px_tiers.proofs.tiers.is_none.Goals as goal

pub returns : goal.returns
returns c = record { none = none_from c.args.ids.now c.is_empty.result c.is_empty.ensures }
