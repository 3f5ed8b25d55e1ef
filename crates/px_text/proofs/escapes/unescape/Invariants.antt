use Rattle.std.proofs.Common.{◌≡◌, ◌+◌, ◌≤◌, ◌++◌, length, vec_len, vec_capacity}
use Rattle.px_text.specs.Escapes.{unescaped}
use Rattle.px_text.proofs.escapes.unescape.Given as goal

abbrev pub invariant-loop-at : goal.invariant-loop-at
invariant-loop-at l = record {
  room : vec_len l.out + length l.rest ≤ vec_capacity l.out;
  same : l.out.items ++ unescaped l.rest ≡ l.fn.out.items ++ unescaped l.text;
}

abbrev pub decreases-loop-at : goal.decreases-loop-at
decreases-loop-at l = length l.rest
