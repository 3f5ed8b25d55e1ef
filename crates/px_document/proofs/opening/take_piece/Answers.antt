-- What is behind the proof is the document's.
use Rattle.std.proofs.Common.{Err, refl}
use Rattle.px_document.proofs.Opened.{halts_in, not_of_source}
use Rattle.px_document.proofs.opening.take_piece.Goals as goal

pub returns-in-Ok-None-clause-more : goal.returns-in-Ok-None-clause-more
returns-in-Ok-None-clause-more c = λ e. c.in-Ok-None.ensures.more c.in-Ok-None.field-0-is

pub returns-in-Ok-clause-ended : goal.returns-in-Ok-clause-ended
returns-in-Ok-clause-ended c = (_, rw c.in-Ok-Some.field-0-is at c.in-Ok-Some.ensures.whole, c.in-Ok.ensures.come)

pub returns-in-Err-begin_document-clause-halted : goal.returns-in-Err-begin_document-clause-halted
returns-in-Err-begin_document-clause-halted c = λ bytes h.
    halts_in c.in-Err-begin_document.halt _ _ c.feed.new.self c.in-Err-begin_document.ensures.halted ((rw c.in-Ok-Some.field-0-is at c.in-Ok-Some.ensures.whole) bytes h)

pub returns-in-Err-begin_document-clause-not_read : goal.returns-in-Err-begin_document-clause-not_read
returns-in-Err-begin_document-clause-not_read c = not_of_source (Err c.in-Err-begin_document.halt) c.in-Err-begin_document.halt _ c.in-Err-begin_document.ensures.halted refl

pub returns-in-Err-clause-halted : goal.returns-in-Err-clause-halted
returns-in-Err-clause-halted c = λ bytes h more. c.in-Err.ensures.fault bytes more h
