use Rattle.std.proofs.Common.{arith}
use Rattle.px_text.proofs.Printed.{few_digits}
use Rattle.px_text.proofs.printing.push_whole.Goals as goal

pub push_digits-requires : goal.push_digits-requires
push_digits-requires c = record { room = omega (arith, few_digits c.args.whole c.requires.below) }

pub returns-else-whole-eq0-clause-len : goal.returns-else-whole-eq0-clause-len
returns-else-whole-eq0-clause-len c = omega (arith, few_digits c.args.whole c.requires.below)
