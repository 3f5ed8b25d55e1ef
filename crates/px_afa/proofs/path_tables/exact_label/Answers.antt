use Rattle.px_afa.proofs.PathKeeping.{label_within}
use Rattle.px_afa.proofs.path_tables.exact_label.Goals as goal

pub returns-in-Label-clause-within : goal.returns-in-Label-clause-within
returns-in-Label-clause-within c = λ kinds are. label_within kinds c.args.state.now c.test.result c.in-Label.label c.in-Label.is (c.test.ensures.it kinds are)
