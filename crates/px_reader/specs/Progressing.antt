-- How far a document has come whose lines are judged.
use Rattle.std.specs.Prelude.{[]}
use Rattle.px_reader.specs.declared.judge.Judge.{Judge}
use Rattle.px_reader.specs.declared.scanner.Scanner.{Scanner}
use Rattle.px_reader.specs.Machine.{State}
use Rattle.px_reader.specs.Progress.{Progress}
use Rattle.px_reader.specs.Scanning.{state_in}

-- the state of a scanner that holds nothing of a piece
abbrev pub state_apart : Scanner → State
state_apart scanner = state_in [] scanner

abbrev pub progress : Judge → Progress
progress judge = record {
  state = state_apart judge.scanner;
  kept = judge.kept.items;
  size = judge.extent.size;
  lines = judge.extent.lines;
  fault = judge.fault;
}
