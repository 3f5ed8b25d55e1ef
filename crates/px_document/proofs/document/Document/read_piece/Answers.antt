-- A piece more comes, or shows the document's fault.
use Rattle.std.proofs.Common.{◌++◌, take, arith}
use Rattle.std.proofs.lemmas.List.{length-take-le}
use Rattle.px_io.proofs.Flowing.{takes_both}
use Rattle.px_document.proofs.Coming.{comes_more, gives_fine, shows_fault}
use Rattle.px_document.proofs.document.Document.read_piece.Goals as goal

pub returns-in-Ok-clause-more : goal.returns-in-Ok-clause-more
returns-in-Ok-clause-more g c = λ e least left comes.
    let next = c.in-Got.ensures.next in
    comes_more least left _ _ c.args.self.now c.take.new.self _ comes next.2 (omega (arith, next.0, length-take-le c.in-Got.count c.read.new.into next.1)) c.in-Ok.ensures.come

pub returns-in-Err-clause-fault : goal.returns-in-Err-clause-fault
returns-in-Err-clause-fault g c = λ least left fault comes e.
    let next = c.in-Got.ensures.next in
    shows_fault left _ (comes.bytes ++ take c.in-Got.count c.read.new.into) fault (takes_both left _ _ comes.bytes _ comes.taken next.2)
    (c.in-Err.ensures.fault comes.bytes fault comes.come (cc))

pub returns-in-Failed-clause-not_at_fault : goal.returns-in-Failed-clause-not_at_fault
returns-in-Failed-clause-not_at_fault g c = λ least left comes e. gives_fine least left _ _ c.args.self.now comes c.in-Failed.ensures.next
