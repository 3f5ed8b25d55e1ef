-- The last byte says whether the line has an end.
use Rattle.std.proofs.Common.{sym, arith}
use Rattle.px_reader.proofs.Ends.{end_none}
use Rattle.px_reader.proofs.cuts.without_end.Goals as goal

pub returns-in_default-2 : goal.returns-in_default-2
returns-in_default-2 c = sym (end_none c.args.line.now (λ some e. omega arith))
