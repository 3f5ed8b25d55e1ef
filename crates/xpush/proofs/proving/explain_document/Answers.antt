-- What is found is written.
use Rattle.xpush.proofs.WhatIsFound.{proved, cut_explained}
use Rattle.xpush.proofs.proving.explain_document.Goals as goal

pub returns-in-Ok-clause-output : goal.returns-in-Ok-clause-output
returns-in-Ok-clause-output g c = λ t. let whole = c.write_finding.ensures.whole t in proved _ _ _ _ _ c.in-Ok.finding _ c.in-Ok.ensures.found whole.0 whole.1

pub returns-in-Ok-clause-front : goal.returns-in-Ok-clause-front
returns-in-Ok-clause-front g c = λ t. cut_explained c.args.filter.now _ _ _ _ c.in-Ok.finding c.in-Ok.ensures.found (c.write_finding.ensures.front t)
