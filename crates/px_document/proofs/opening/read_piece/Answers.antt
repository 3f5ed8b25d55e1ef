-- A piece more is taken, or stops the reading.
use Rattle.std.proofs.Common.{arith}
use Rattle.std.proofs.lemmas.List.{length-take-le}
use Rattle.px_document.proofs.Opened.{takes_more, ends_in, stops_in, ends_early, fine_in_proof}
use Rattle.px_document.proofs.opening.read_piece.Goals as goal

pub returns-in-Got-clause-more : goal.returns-in-Got-clause-more
returns-in-Got-clause-more g c = λ e least left t.
    let next = c.in-Got.ensures.next in
    takes_more least left _ _ c.args.proof.now c.take_piece.new.proof _ t next.2 (omega (arith, next.0, length-take-le c.in-Got.count c.read.new.into next.1)) (c.take_piece.ensures.more e)

pub returns-in-Got-clause-ended : goal.returns-in-Got-clause-ended
returns-in-Got-clause-ended g c = ends_in c.take_piece.result c.args.proof.now c.take_piece.new.proof _ _ _ c.in-Got.ensures.next.2 c.take_piece.ensures.ended

pub returns-in-Got-clause-halted : goal.returns-in-Got-clause-halted
returns-in-Got-clause-halted g c = stops_in c.take_piece.result c.args.proof.now _ _ _ c.in-Got.ensures.next.2 c.take_piece.ensures.halted

pub returns-in-End-clause-halted : goal.returns-in-End-clause-halted
returns-in-End-clause-halted g c = ends_early c.end.result c.args.proof.now _ c.end.ensures.fault c.in-End.ensures.next.0

pub returns-in-Got-clause-failed : goal.returns-in-Got-clause-failed
returns-in-Got-clause-failed g c = λ e. absurd (c.take_piece.ensures.not_read e)

pub returns-in-Got-clause-not_at_fault : goal.returns-in-Got-clause-not_at_fault
returns-in-Got-clause-not_at_fault g c = λ least left t e. absurd (c.take_piece.ensures.not_read e)

pub returns-in-Failed-clause-not_at_fault : goal.returns-in-Failed-clause-not_at_fault
returns-in-Failed-clause-not_at_fault g c = λ least left t e. fine_in_proof least left _ _ c.args.proof.now t c.in-Failed.ensures.next
