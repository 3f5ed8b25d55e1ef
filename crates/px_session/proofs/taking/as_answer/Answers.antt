use Rattle.std.proofs.Common.{ap, sym}
use Rattle.px_session.specs.Sessions.{call_fault}
use Rattle.px_session.proofs.taking.as_answer.Goals as goal

pub returns-in-Doc : goal.returns-in-Doc
returns-in-Doc c = sym (ap call_fault c.in-Doc.is)

pub returns-in-Memory : goal.returns-in-Memory
returns-in-Memory c = sym (ap call_fault c.in-Memory.is)
