use Rattle.px_document.proofs.OneFinding.{explained-one, verified-one}
use Rattle.px_document.proofs.laws.a_finding_is_one.Goals as goal

pub returns-clause-explained : goal.returns-clause-explained
returns-clause-explained c = explained-one

pub returns-clause-verified : goal.returns-clause-verified
returns-clause-verified c = verified-one
