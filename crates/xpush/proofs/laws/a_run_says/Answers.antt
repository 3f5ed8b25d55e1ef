-- Each fact stands in the record.
use Rattle.xpush.proofs.RunFacts.{says_output, says_front, says_whole, no_usage}
use Rattle.xpush.proofs.laws.a_run_says.Goals as goal

pub returns-clause-output : goal.returns-clause-output
returns-clause-output c = says_output

pub returns-clause-front : goal.returns-clause-front
returns-clause-front c = says_front

pub returns-clause-whole_items : goal.returns-clause-whole_items
returns-clause-whole_items c = says_whole

pub returns-clause-not_usage : goal.returns-clause-not_usage
returns-clause-not_usage c = no_usage
