-- None of the names behind is the name.
use Rattle.std.proofs.Common.{◌≡◌, length, reverse}
use Rattle.px_reader.specs.Spelling.{is_among}
use Rattle.px_reader.specs.Stacks.{names_in, AreCut}
use Rattle.px_reader.proofs.name_stack.stands_in.Given as goal

abbrev pub invariant-loop-start : goal.invariant-loop-start
invariant-loop-start l = record { cut : AreCut (length l.held) (reverse l.rest); same : is_among l.name (names_in l.bytes (reverse l.starts)) ≡ is_among l.name (names_in l.held (reverse l.rest)) }

abbrev pub decreases-loop-start : goal.decreases-loop-start
decreases-loop-start l = length l.rest
