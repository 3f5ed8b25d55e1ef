use Rattle.std.proofs.Common.{◌≡◌, ℕ, List, [], refl}
use Rattle.px_text.specs.declared.op.Op.{Op}
use Rattle.px_text.specs.Operands.{Operand, index, set_of}
use Rattle.px_rule.specs.Known.{plain, named}
use Rattle.px_rule.proofs.Lasting.{grew_trans}
use Rattle.px_intern.proofs.Growing.{told_grew}
use Rattle.px_intern.proofs.tests.a_set_and_a_step_are_found_again.Goals as goal

abbrev all_empty : List ℕ → Op → Operand → Operand → List ℕ → Type 0
all_empty log op first second answer = answer ≡ []

pub put-requires-clause-step : goal.put-requires-clause-step
put-requires-clause-step g c =
    let v = c.intern-5.new.seat.view in
    let w = c.find.new.seat.view in
    record {
      first = set_of c.in_ok-both.both;
      second = index 3;
      answer = [];
      first_is = told_grew all_empty c.in_ok-shared.shared.shape v w c.in-Number.number c.in_ok-both.both (grew_trans v c.set_of.new.seat.view w c.set_of.ensures.grew c.find.ensures.grew) c.in-Number.ensures.answer.1;
      second_is = plain 3;
      answer_is = named 0 [] refl;
      is_right = refl;
    }
