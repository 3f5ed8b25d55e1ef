-- The lines before this one are taken in.
use Rattle.std.proofs.Common.{◌++◌, List, take}
use Rattle.px_feed.specs.declared.line.OutLine.{OutLine}
use Rattle.px_parallel.specs.Sums.{AreSums}
use Rattle.px_parallel.proofs.sums.SumsListener.hear.Given as goal

abbrev pub invariant-loop-line : goal.invariant-loop-line
invariant-loop-line l = record {
  heard : (before : List OutLine) → AreSums before l.initial.self → AreSums (before ++ take l.line-index l.lines) l.self;
}
