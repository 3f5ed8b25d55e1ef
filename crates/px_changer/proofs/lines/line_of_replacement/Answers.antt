-- A refusal, whatever the id is.
use Rattle.std.proofs.Common.{Result, sym, subst}
use Rattle.std.specs.Prelude.{ℕ, IfOk}
use Rattle.px_hub.specs.declared.faults.ReplaceFault.{ReplaceFault}
use Rattle.px_changer.specs.Lines.{IsLineOfReplacement}
use Rattle.px_changer.proofs.lines.line_of_replacement.Goals as goal

pub returns-in-Err : goal.returns-in-Err
returns-in-Err c =
    let P : Result ℕ ReplaceFault → Type 0 = λ outcome. IfOk c.line_of_refused_replacement.result (λ line. IsLineOfReplacement c.args.id outcome line) in
    subst P (sym c.in-Err.is) (c.line_of_refused_replacement.ensures c.args.id)
