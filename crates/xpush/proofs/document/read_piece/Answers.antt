-- A piece that is judged goes on from what was read.
use Rattle.std.proofs.Common.{◌++◌, take, arith, refl, subst}
use Rattle.std.proofs.lemmas.List.{length-take-le}
use Rattle.px_reader.specs.declared.fault.ReaderFault.{ReaderFault}
use Rattle.px_reader.specs.Reading.{IsFirstFault}
use Rattle.xpush.proofs.Reading.{reads_more, few_more, shows_fault, came_is, gives_fine}
use Rattle.xpush.proofs.Stopping.{stopped_by_doc}
use Rattle.xpush.proofs.document.read_piece.Goals as goal

pub returns-in-Ok-clause-more : goal.returns-in-Ok-clause-more
returns-in-Ok-clause-more g c = λ least left given r _.
    let next = c.in-Got.ensures.next in
    let none = c.clear.ensures.items in
    let on = c.in-Ok.ensures.reads r.bytes given r.read in (
      reads_more least left _ _ _ _ given _ on.0 _ r next.2 (omega (arith, next.0, length-take-le c.in-Got.count c.read.new.into next.1)) (came_is _ _ _ none on.1) on.2,
      few_more given _ _ none (c.feed.ensures.gives r.bytes given r.read),
    )

pub returns-in-Err-clause-fault : goal.returns-in-Err-clause-fault
returns-in-Err-clause-fault g c = λ least left given r fault e.
    let P : ReaderFault → Type 0 = λ one. IsFirstFault (r.bytes ++ take c.in-Got.count c.read.new.into) one in
    let first = c.in-Err.ensures.fault r.bytes given r.read in
    shows_fault least left _ _ _ given _ fault r c.in-Got.ensures.next.2 (subst P (stopped_by_doc _ c.in-Err.fault c.from.result fault refl c.from.ensures e) first)

pub returns-in-Failed-clause-not_at_fault : goal.returns-in-Failed-clause-not_at_fault
returns-in-Failed-clause-not_at_fault g c = λ least left given r e. gives_fine least left _ _ c.args.reader.now given r c.in-Failed.ensures.next
