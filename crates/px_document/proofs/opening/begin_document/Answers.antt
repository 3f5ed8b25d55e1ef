-- What stops a document at its first bytes.
use Rattle.std.proofs.Common.{Err, refl, []}
use Rattle.px_document.proofs.Opened.{halts_at}
use Rattle.px_document.proofs.opening.begin_document.Goals as goal

pub returns-in-Err-clause-halted : goal.returns-in-Err-clause-halted
returns-in-Err-clause-halted c =
    halts_at (Err c.in-Err.stop) c.in-Err.stop c.args.bytes.now refl (λ fault e. c.in-Err.ensures.fault [] fault c.in-Ok.ensures e) c.in-Err.ensures.not_read
