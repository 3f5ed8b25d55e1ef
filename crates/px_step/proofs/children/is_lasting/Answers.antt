use Rattle.std.proofs.Common.{sym, arith}
use Rattle.px_step.proofs.Popped.{past_lasting}
use Rattle.px_step.proofs.children.is_lasting.Goals as goal

pub returns-then-n-states : goal.returns-then-n-states
returns-then-n-states c = record { lasting = sym (past_lasting c.args.program.now.states c.args.n (omega (arith, c.states.ensures.count))) }
