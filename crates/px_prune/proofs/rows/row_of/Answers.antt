use Rattle.std.proofs.Common.{Some, ap, ◌∙◌}
use Rattle.px_step.proofs.Parts.{below-at, body_more}
use Rattle.px_prune.proofs.rows.row_of.Goals as goal

pub body_row-requires-clause-there : goal.body_row-requires-clause-there
body_row-requires-clause-there c =
    body_more _ c.args.n _ (below-at c.args.program.now.states c.requires.sound.ordered c.args.n _ (c.state.ensures.it ∙ ap Some c.in-Path.is)).0 c.requires.there
