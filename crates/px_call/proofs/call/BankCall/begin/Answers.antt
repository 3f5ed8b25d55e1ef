use Rattle.std.proofs.Common.{[], refl}
use Rattle.std.proofs.lemmas.Result.{IfOk-from_err, IfOk-at_ok}
use Rattle.px_call.specs.Calls.{IsRunning}
use Rattle.px_call.proofs.Running.{filtered_of}
use Rattle.px_call.proofs.call.BankCall.begin.Goals as goal

pub returns-in_err-runner-clause-ok : goal.returns-in_err-runner-clause-ok
returns-in_err-runner-clause-ok g c = IfOk-from_err c.from_residual.result _ c.from_residual.ensures.0

pub returns-clause-ok : goal.returns-clause-ok
returns-clause-ok g c =
    filtered_of g.L.Law.right c.args.compiled.now c.args.seat.now c.start-runner.new.seat _ [] c.in_ok-runner.field-0 c.of-began.ensures c.requires.inside c.start-runner.ensures.table c.start-runner.ensures.grew refl
    (IfOk-at_ok (λ runner. IsRunning g.L.Law.right c.args.compiled.now c.args.seat.now c.start-runner.new.seat c.start-runner.result.0 runner []) c.in_ok-runner.was c.start-runner.ensures.ok)
