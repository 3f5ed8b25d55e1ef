-- What stopped a reading.
use Rattle.std.proofs.Common.{◌≡◌, Result, Err}
use Rattle.px_reader.specs.declared.fault.DocFault.{DocFault}
use Rattle.px_reader.specs.declared.fault.ReaderFault.{ReaderFault}
use Rattle.px_reader.specs.declared.fault.ReaderFault.TheVariants as fault
use Rattle.xpush.specs.declared.stop.Stop.{Stop}
use Rattle.xpush.specs.declared.stop.Stop.TheVariants as stop
use Rattle.xpush.specs.Stops.{stop_of}

-- a fault of the document came from the reader
pub stopped_by_doc : {A : Type 0} (given : Result A Stop) (by : ReaderFault) (found : Stop) (wanted : DocFault) → given ≡ Err found → found ≡ stop_of by →
    given ≡ Err (stop.Doc wanted) → by ≡ fault.Doc wanted
stopped_by_doc given (fault.Doc doc) found wanted e p q = cc
stopped_by_doc given fault.Memory found wanted e p q = absurd (cc)
