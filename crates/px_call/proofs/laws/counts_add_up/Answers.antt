use Rattle.std.proofs.Common.{take}
use Rattle.px_call.proofs.Ordered.{all_counted, settled}
use Rattle.px_call.proofs.laws.counts_add_up.Goals as goal

pub returns : goal.returns
returns g c = record {
  add_up = λ z k n began v tally steps sets h. all_counted g.L.Law.right z k n began v tally steps sets h;
  settled = λ z k n began v tally steps sets h none. (h.counted.settled none, settled g.L.Law.right z k n began v tally steps sets h (g.L.Law.one_answer (take n v.past.seen)) none);
}
