use Rattle.std.proofs.Common.{◌≡◌}
use Rattle.px_banks.specs.Answers.{IsCleared}
use Rattle.px_banks.proofs.banks.zero.Given as goal

abbrev pub invariant-loop-place : goal.invariant-loop-place
invariant-loop-place g l = (l.desk.table ≡ l.initial.desk.table) × IsCleared l.bank l.place l.initial.desk.view l.desk.view
