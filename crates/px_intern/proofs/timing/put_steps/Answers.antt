use Rattle.std.proofs.Common.{[], refl}
use Rattle.px_text.specs.Operands.{index, set_of}
use Rattle.px_rule.specs.Known.{plain, named}
use Rattle.px_intern.proofs.timing.put_steps.Goals as goal

pub put-requires-clause-step : goal.put-requires-clause-step
put-requires-clause-step c = record { first = index 0; second = index c.loop-class.class; answer = []; first_is = plain 0; second_is = plain c.loop-class.class; answer_is = named 0 [] refl; is_right = refl }
