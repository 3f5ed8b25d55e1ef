use Rattle.std.proofs.Common.{refl, [], ◌∷◌}
use Rattle.px_lines.proofs.outgoing.Outgoing.take.Goals as goal
use Rattle.px_lines.proofs.Spoken.{written_so_far}

pub returns-in_default-clause-says : goal.returns-in_default-clause-says
returns-in_default-clause-says c = λ now held lines s. (tt, (refl, written_so_far c.args.self.now held now lines (c.args.line.now ∷ []) s))

pub returns-then-is_err-clause-says : goal.returns-then-is_err-clause-says
returns-then-is_err-clause-says c = λ now held lines s. (tt, (refl, written_so_far c.args.self.now held now lines (c.args.line.now ∷ []) s))
