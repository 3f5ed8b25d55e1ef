use Rattle.std.proofs.Common.{rules, refl}
use Rattle.px_rule.specs.Banks.{stand}
use Rattle.px_banks.proofs.tests.+crowd.Goals as goal

pub claim-requires-clause-stand : goal.claim-requires-clause-stand
claim-requires-clause-stand g c here = (stand 0 0 0, search rules, refl, refl)
