-- The answers that end a feed.
use Rattle.px_feed.specs.declared.fault.Failure.{Failure}
use Rattle.px_feed.specs.declared.fault.Failure.TheVariants as failure
use Rattle.px_feed.specs.declared.ending.Ending.{Ending}
use Rattle.px_feed.specs.declared.ending.Ending.TheVariants.{End, Fault, ReadFault, Memory}
use Rattle.px_feed.specs.declared.ending.Taken.{Taken}
use Rattle.px_feed.specs.declared.ending.Taken.TheVariants as taken

abbrev pub ending_of : Failure → Ending
ending_of (failure.Fault fault) = Fault fault
ending_of failure.Memory = Memory

abbrev pub taken_of : Ending → Taken
taken_of End = taken.End
taken_of (Fault fault) = taken.Fault fault
taken_of ReadFault = taken.ReadFault
taken_of Memory = taken.Memory
