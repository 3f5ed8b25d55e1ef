-- The lines so far, those of the replies behind them, and room for these.
use Rattle.std.proofs.Common.{◌≡◌, ◌+◌, ◌≤◌, ◌++◌, map, length}
use Rattle.px_parallel.specs.Answering.{line_for}
use Rattle.px_parallel.proofs.answers.lines_of.Given as goal

abbrev pub invariant-loop-reply : goal.invariant-loop-reply
invariant-loop-reply l = record {
  said : l.lines.items ++ map line_for l.reply-iterator.rest.items ≡ map line_for l.fn.replies.items;
  room : length l.lines.items + length l.reply-iterator.rest.items ≤ l.lines.cap;
}
