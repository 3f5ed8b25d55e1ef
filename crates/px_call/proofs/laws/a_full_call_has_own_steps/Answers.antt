use Rattle.std.proofs.Common.{take}
use Rattle.px_reader.specs.Spelling.{events_of}
use Rattle.px_call.proofs.Ordered.{full_some}
use Rattle.px_call.proofs.Runs.{held_in_run}
use Rattle.px_call.proofs.laws.a_full_call_has_own_steps.Goals as goal

pub returns : goal.returns
returns g c = record {
  full = λ z k n began v tally steps sets held h. full_some g.L.Law.right z k n began v tally steps sets h (g.L.Law.one_answer (take n v.past.seen)) held;
  held = λ automata root. held_in_run automata (events_of root) root;
}
