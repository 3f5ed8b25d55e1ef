use Rattle.px_session.proofs.laws.a_session_counts_its_steps.Goals as goal

pub returns-clause-place : goal.returns-clause-place
returns-clause-place c = λ table v s bytes given fed. c.an_open_call_counts_its_steps.ensures.place table v s.pass fed.engine given fed.runs.taken

pub returns-clause-counts : goal.returns-clause-counts
returns-clause-counts c = λ table v s bytes given fed. c.an_open_call_counts_its_steps.ensures.counts table v s.pass fed.engine given fed.runs.taken
