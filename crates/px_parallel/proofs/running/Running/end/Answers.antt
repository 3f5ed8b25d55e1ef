-- Those that wait are answered, and the run ends.
use Rattle.std.proofs.Common.{Some}
use Rattle.px_lines.specs.Standing.{streams}
use Rattle.px_gather.proofs.Turning.{cut_ended, run_ended}
use Rattle.px_parallel.specs.Hearing.{HaveHeard}
use Rattle.px_parallel.proofs.running.Running.end.Goals as goal

pub answer_waiting-requires-clause-can_run : goal.answer_waiting-requires-clause-can_run
answer_waiting-requires-clause-can_run g c = λ lives within. (Some c.args.end, c.requires.can_run)

pub returns-in-Ok-clause-ends : goal.returns-in-Ok-clause-ends
returns-in-Ok-clause-ends g c = λ first left faults least r.
    let waited = c.in-Ok.ensures {u = tt} in
    run_ended (HaveHeard g.N.HubName.passes g.L.Listener.heard) c.args.end c.end.result c.answer_waiting.new.gathering (c.answer_waiting.new.passes, c.answer_waiting.new.listener)
    (g.K.Sink.held c.answer_waiting.new.sink) (g.K.Sink.held c.end.new.sink) waited.none c.end.ensures.ends first left faults least
    (waited.answers (Some c.args.end) first left faults least r)

pub returns-in-Err-clause-ends : goal.returns-in-Err-clause-ends
returns-in-Err-clause-ends g c = λ first left faults least r.
    let now = streams left (g.K.Sink.held c.answer_waiting.new.sink) faults in
    cut_ended (HaveHeard g.N.HubName.passes g.L.Listener.heard) c.in-Err.status (c.answer_waiting.new.passes, c.answer_waiting.new.listener) first now
    ((c.in-Err.ensures {u = tt}).answers (Some c.args.end) first left faults least r)
