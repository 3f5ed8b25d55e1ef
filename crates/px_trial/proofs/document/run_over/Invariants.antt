-- The runner has run over the events so far.
use Rattle.std.proofs.Common.{◌≤◌, length, take}
use Rattle.px_runner.specs.Running.{HasRun}
use Rattle.px_trial.proofs.document.run_over.Given as goal

abbrev pub invariant-loop-event : goal.invariant-loop-event
invariant-loop-event g l = record {
  run : HasRun g.M.Memo.automata g.M.Memo.stands_for l.memo l.runner (take l.event-index l.events);
  few : length l.events ≤ 1_000_000_000;
}
