-- What stops the reading of a document, and what is found then.
use Rattle.std.specs.Prelude.{Result, Ok, Err}
use Rattle.px_reader.specs.declared.fault.ReaderFault.{ReaderFault}
use Rattle.px_reader.specs.declared.fault.ReaderFault.TheVariants as fault
use Rattle.px_xpath.specs.declared.fault.ParseFault.{ParseFault}
use Rattle.px_xpath.specs.declared.fault.ParseFault.TheVariants as parsing
use Rattle.px_feed.specs.Matches.{faulty}
use Rattle.px_feed.specs.declared.line.OutLine.TheVariants.{NoFilter}
use Rattle.px_explain.specs.declared.reading.ProofFault.{ProofFault}
use Rattle.px_explain.specs.declared.reading.ProofFault.TheVariants as proof
use Rattle.px_document.specs.declared.finding.Finding.{Finding}
use Rattle.px_document.specs.declared.finding.Finding.TheVariants.{Line, NoProofLine, ProofTooMany}
use Rattle.px_document.specs.declared.stop.Cut.{Cut}
use Rattle.px_document.specs.declared.stop.Cut.TheVariants as cut
use Rattle.px_document.specs.declared.stop.Stop.{Stop}
use Rattle.px_document.specs.declared.stop.Stop.TheVariants as stop
use Rattle.px_document.specs.declared.opening.Halt.{Halt}
use Rattle.px_document.specs.declared.opening.Halt.TheVariants.{Proof, Document}

-- a reader's fault stops it
abbrev pub stop_of : ReaderFault → Stop
stop_of (fault.Doc found) = stop.Doc found
stop_of fault.Memory = stop.Memory

-- what is found where the reading of a document was stopped, or what cuts the run short
abbrev pub outcome_of : Stop → Result Finding Cut
outcome_of (stop.Doc found) = Ok (Line (faulty found))
outcome_of stop.Source = Err cut.Source
outcome_of stop.Memory = Err cut.Memory

-- the same of a filter that was refused
abbrev pub no_filter_of : ParseFault → Result Finding Cut
no_filter_of (parsing.Filter found) = Ok (Line (NoFilter found))
no_filter_of parsing.Memory = Err cut.Memory

-- the same of a proof's fault
abbrev pub refusal_of : ProofFault → Result Finding Cut
refusal_of (proof.NotAProof line) = Ok (NoProofLine line)
refusal_of proof.TooMany = Ok ProofTooMany
refusal_of proof.Memory = Err cut.Memory

-- the same of a proof in front of a document
abbrev pub halt_of : Halt → Result Finding Cut
halt_of (Proof fault) = refusal_of fault
halt_of (Document stop) = outcome_of stop
