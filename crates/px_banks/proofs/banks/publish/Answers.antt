use Rattle.std.proofs.Common.{ap}
use Rattle.px_banks.proofs.banks.publish.Goals as goal

pub returns-clause-past : goal.returns-clause-past
returns-clause-past g c = let b = c.requires.built in ap (λ v. v.past) (c.publish_step.ensures.view b.0 b.1)
