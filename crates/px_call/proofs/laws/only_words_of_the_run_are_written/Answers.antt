use Rattle.px_call.proofs.Runs.{writes_of_run}
use Rattle.px_call.proofs.laws.only_words_of_the_run_are_written.Goals as goal

pub returns : goal.returns
returns g c = record { words = λ z k n automata began v tally given rest root. writes_of_run g.L.Law.right z k n automata v root began tally given rest }
