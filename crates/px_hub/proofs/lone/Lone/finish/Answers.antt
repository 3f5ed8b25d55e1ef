use Rattle.px_hub.proofs.Counting.{counted_run}
use Rattle.px_hub.proofs.lone.Lone.finish.Goals as goal

pub returns-clause-steps : goal.returns-clause-steps
returns-clause-steps c = λ history root h. counted_run c.args.self history root h
