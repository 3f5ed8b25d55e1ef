use Rattle.std.proofs.Common.{◌≡◌, ◌<◌, ◌≤◌, ◌+◌, ◌^◌, ◌++◌, vec_len, vec_capacity}
use Rattle.px_text.specs.Printing.{fraction_text}
use Rattle.px_text.proofs.printing.push_places.Given as goal

abbrev pub invariant-loop-rest : goal.invariant-loop-rest
invariant-loop-rest l = record {
  below : l.rest < 10 ^ l.places;
  few : l.places ≤ 18;
  room : vec_len l.out + l.places ≤ vec_capacity l.out;
  same : l.out.items ++ fraction_text l.places l.rest ≡ l.fn.out.items ++ fraction_text 18 l.fraction;
}

abbrev pub decreases-loop-rest : goal.decreases-loop-rest
decreases-loop-rest l = l.places
