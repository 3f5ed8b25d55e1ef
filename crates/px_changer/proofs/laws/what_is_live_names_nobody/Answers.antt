use Rattle.px_changer.proofs.Anonymous.{same_live, same_matches}
use Rattle.px_changer.proofs.laws.what_is_live_names_nobody.Goals as goal

pub returns-clause-live : goal.returns-clause-live
returns-clause-live c changes = same_live changes

pub returns-clause-matches : goal.returns-clause-matches
returns-clause-matches c changes root = same_matches changes root
