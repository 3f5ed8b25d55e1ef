use Rattle.std.proofs.Common.{◌∙◌}
use Rattle.px_step.proofs.RisingNumbers.{rising_equal}
use Rattle.px_step.proofs.Accepted.{accept-rises}
use Rattle.px_step.proofs.accepting.accept.Goals as goal

pub returns : goal.returns
returns c = record {
  ids =
      c.of.ensures.same
      ∙ rising_equal c.in_ok-ascending_marked.field-0.items _ c.in_ok-ascending_marked.ensures.rises (accept-rises c.args.program.now.firsts c.args.set.now c.sound.ensures.sound.ids_rise)
      (λ n. c.in_ok-ascending_marked.ensures.same n ∙ c.in_ok-ids.ensures.members n);
}
