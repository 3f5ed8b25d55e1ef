use Rattle.std.proofs.Common.{◌∙◌, sym, ap}
use Rattle.px_afa.specs.Functions.{body_need}
use Rattle.px_prune.proofs.NeededParts.{none-needed}
use Rattle.px_prune.proofs.rows.body_row.Goals as goal

pub returns-in-Always : goal.returns-in-Always
returns-in-Always c = record { row = c.new.ensures.items ∙ (sym (none-needed c.args.program.now.states) ∙ sym (ap (body_need c.args.program.now.states) c.in-Always.is)) }
