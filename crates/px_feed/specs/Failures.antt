-- The failure of a line of a feed.
use Rattle.std.specs.Prelude.{ℕ}
use Rattle.px_reader.specs.declared.fault.LineFault.{LineFault}
use Rattle.px_reader.specs.declared.fault.LineFault.TheVariants.{Kind, LineMemory}
use Rattle.px_feed.specs.declared.fault.Failure.{Failure}
use Rattle.px_feed.specs.declared.fault.Failure.TheVariants.{Fault, Memory}
use Rattle.px_feed.specs.declared.line.FeedKind.TheVariants.{Doc}

-- the failure of the line with this number
abbrev pub failure_of : ℕ → LineFault → Failure
failure_of line (Kind kind) = Fault (record { line = line; kind = Doc kind })
failure_of line LineMemory = Memory
