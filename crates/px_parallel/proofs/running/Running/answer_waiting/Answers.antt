-- The documents that wait are filtered, and their lines are said.
use Rattle.px_lines.specs.Standing.{streams}
use Rattle.px_gather.proofs.Turning.{memory_cut, waiting_answered}
use Rattle.px_parallel.specs.Hearing.{HaveHeard}
use Rattle.px_parallel.proofs.running.Running.answer_waiting.Goals as goal

pub returns-then-is_empty-clause-answers : goal.returns-then-is_empty-clause-answers
returns-then-is_empty-clause-answers g c = λ found first left faults least r. r

pub filter-requires-clause-before : goal.filter-requires-clause-before
filter-requires-clause-before g c = λ lives within. (let r = c.requires.can_run.1.4 in (r.0, r.2))

pub returns-in-Ok-clause-answers : goal.returns-in-Ok-clause-answers
returns-in-Ok-clause-answers g c =
    waiting_answered (HaveHeard g.N.HubName.passes g.L.Listener.heard) c.documents-2.result.now c.in-Ok.lines.items c.as_slice.result.now c.answer_all.result c.args.gathering.now
    c.answer_all.new.self (c.args.passes.now, c.args.listener.now) (c.filter.new.passes, c.filter.new.listener) (g.K.Sink.held c.args.sink.now) (g.K.Sink.held c.answer_all.new.sink) c.documents-2.ensures
    c.as_slice.ensures.value (c.in-Ok.ensures {u = tt}).lines c.answer_all.ensures.answers

pub returns-in-Err-clause-answers : goal.returns-in-Err-clause-answers
returns-in-Err-clause-answers g c = λ found first left faults least r.
    memory_cut (HaveHeard g.N.HubName.passes g.L.Listener.heard) found c.args.gathering.now (c.args.passes.now, c.args.listener.now) first (streams left (g.K.Sink.held c.args.sink.now) faults) least r
