-- The program of the one filter accepts 1 where it holds.
use Rattle.std.proofs.Common.{[], ◌∷◌, refl}
use Rattle.xpush.proofs.Reading.{gives_matches}
use Rattle.xpush.proofs.matching.ids_under.Goals as goal

pub returns-clause-ids : goal.returns-clause-ids
returns-clause-ids g c = gives_matches (record { id = 1; filter = c.args.filter } ∷ []) _ _ _ _ c.ids_in.result c.in_ok-program.ensures.program refl c.ids_in.ensures.ids
