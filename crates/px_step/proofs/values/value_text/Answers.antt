use Rattle.std.proofs.Common.{◌∙◌}
use Rattle.px_step.proofs.TrueValues.{equal-rises, others-rise, is_other, text-set}
use Rattle.px_step.proofs.values.value_text.Goals as goal

pub union-requires-clause-first : goal.union-requires-clause-first
union-requires-clause-first c = rw c.equal_texts.ensures.all (equal-rises c.args.program.now.states c.args.class c.sound.ensures.sound.few)

pub union-requires-clause-second : goal.union-requires-clause-second
union-requires-clause-second c = rw (c.deref.ensures.value, c.in_ok-others.ensures.others) (others-rise c.args.program.now.states (is_other c.args.program.now.states c.args.class) c.sound.ensures.sound.few)

pub from_vec-requires : goal.from_vec-requires
from_vec-requires c = record {
  rising =
      (text-set c.args.program.now.states c.args.class c.equal_texts.result.now c.in_ok-others.others.items c.deref.result.now c.in_ok-union.field-0.items
      c.sound.ensures.sound.few c.equal_texts.ensures.all c.in_ok-others.ensures.others c.deref.ensures.value c.in_ok-union.ensures.union).rising;
}

pub returns : goal.returns
returns c = record {
  values =
      c.from_vec.ensures.same
      ∙ (text-set c.args.program.now.states c.args.class c.equal_texts.result.now c.in_ok-others.others.items c.deref.result.now c.in_ok-union.field-0.items
      c.sound.ensures.sound.few c.equal_texts.ensures.all c.in_ok-others.ensures.others c.deref.ensures.value c.in_ok-union.ensures.union).is;
}
