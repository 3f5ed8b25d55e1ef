-- What stops the reading of a document, and what comes of it.
use Rattle.std.specs.Prelude.{Result, Ok, Err}
use Rattle.px_feed.specs.declared.line.OutLine.{OutLine}
use Rattle.px_feed.specs.declared.line.OutLine.TheVariants.{NoFilter}
use Rattle.px_feed.specs.Matches.{faulty}
use Rattle.px_xpath.specs.declared.fault.ParseFault.{ParseFault}
use Rattle.px_xpath.specs.declared.fault.ParseFault.TheVariants as parsing
use Rattle.xpush.specs.declared.stop.Cut.{Cut}
use Rattle.xpush.specs.declared.stop.Cut.TheVariants as cut
use Rattle.px_reader.specs.declared.fault.ReaderFault.{ReaderFault}
use Rattle.px_reader.specs.declared.fault.ReaderFault.TheVariants as fault
use Rattle.xpush.specs.declared.stop.Stop.{Stop}
use Rattle.xpush.specs.declared.stop.Stop.TheVariants as stop

-- a reader's fault stops it
abbrev pub stop_of : ReaderFault → Stop
stop_of (fault.Doc found) = stop.Doc found
stop_of fault.Memory = stop.Memory

-- the line of a document whose reading was stopped, or what cuts the run short
abbrev pub outcome_of : Stop → Result OutLine Cut
outcome_of (stop.Doc found) = Ok (faulty found)
outcome_of stop.Source = Err cut.Source
outcome_of stop.Memory = Err cut.Memory

-- the line of a filter that was refused, or what cuts the run short
abbrev pub refusal_of : ParseFault → Result OutLine Cut
refusal_of (parsing.Filter found) = Ok (NoFilter found)
refusal_of parsing.Memory = Err cut.Memory
