use Rattle.std.proofs.Common.{◌∙◌}
use Rattle.px_delta.proofs.Finding.{told_by_find}
use Rattle.px_delta.proofs.pairs.has_id.Goals as goal

pub returns : goal.returns
returns c = c.is_some.ensures ∙ told_by_find _ c.of_id.result _ c.args.id c.of_id.ensures
