-- No entry is told that was not.
use Rattle.std.proofs.Common.{◌≡◌, true}
use Rattle.px_machine.specs.declared.table.Entry.{Entry}
use Rattle.px_machine.specs.Tables.{IsIn}
use Rattle.px_machine.proofs.table.spread.Given as goal

abbrev pub invariant-loop-entry : goal.invariant-loop-entry
invariant-loop-entry l = (entry : Entry) → entry.is_told ≡ true → IsIn l.spread.items entry → IsIn l.entries entry
