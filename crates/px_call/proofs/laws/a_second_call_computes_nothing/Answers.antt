use Rattle.std.proofs.Common.{take}
use Rattle.std.proofs.lemmas.List.Elements.{All-weaker}
use Rattle.px_call.specs.Steps.{StepKept}
use Rattle.px_call.proofs.Lasting.{kept_since}
use Rattle.px_call.proofs.Ordered.{settled, second}
use Rattle.px_call.proofs.laws.a_second_call_computes_nothing.Goals as goal

pub returns : goal.returns
returns g c =
    let right = g.L.Law.right in
    record {
      second = λ z k n began v began' v' tally tally' steps sets sets' held h none since h'.
          second right z k n began' v' tally' steps sets' h' (g.L.Law.one_answer (take n v'.past.seen)) held
          (All-weaker (StepKept right z k n v) (StepKept right z k n began') (λ s kept. kept_since right z k n v began' since s kept) steps
          (settled right z k n began v tally steps sets h (g.L.Law.one_answer (take n v.past.seen)) none));
    }
