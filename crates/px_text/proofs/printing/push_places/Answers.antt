use Rattle.std.proofs.Common.{◌≡◌, ◌+◌, ◌-◌, ◌/◌, ◌%◌, ◌++◌, ◌∷◌, [], append_assoc, append-nil, ap, sym, ◌∙◌, arith}
use Rattle.std.proofs.Math.Nat.{mod-lt}
use Rattle.px_text.specs.Printing.{fraction_text}
use Rattle.px_text.proofs.Printed.{places_step, fraction_done, some_place, unit_positive, one_digit}
use Rattle.px_text.proofs.printing.push_places.Goals as goal

pub nonzero_div-rest : goal.nonzero_div-rest
nonzero_div-rest c = unit_positive (c.loop-rest.places - 1) c.pow-unit.result c.pow-unit.ensures

pub overflow_cast-rest : goal.overflow_cast-rest
overflow_cast-rest c =
    let digit = one_digit c.loop-rest.places c.loop-rest.rest c.pow-unit.result c.loop-rest-test.true c.loop-rest.invariant.below c.pow-unit.ensures in omega arith

pub overflow_add-rest : goal.overflow_add-rest
overflow_add-rest c =
    let digit = one_digit c.loop-rest.places c.loop-rest.rest c.pow-unit.result c.loop-rest-test.true c.loop-rest.invariant.below c.pow-unit.ensures in omega arith

pub nonzero_rem-rest : goal.nonzero_rem-rest
nonzero_rem-rest c = unit_positive (c.loop-rest.places - 1) c.pow-unit.result c.pow-unit.ensures

pub loop-rest-preserved : goal.loop-rest-preserved
loop-rest-preserved c =
    let rest = c.loop-rest.rest in
    let unit = c.pow-unit.result in
    let some = some_place c.loop-rest.places rest c.loop-rest-test.true c.loop-rest.invariant.below in
    let step = places_step c.loop-rest.places rest unit c.loop-rest-test.true c.loop-rest.invariant.below c.pow-unit.ensures in
    let behind = fraction_text (c.loop-rest.places - 1) (rest % unit) in
    record {
      below = omega (arith, mod-lt rest (unit_positive (c.loop-rest.places - 1) unit c.pow-unit.ensures), c.pow-unit.ensures);
      few = omega arith;
      room = omega (arith, c.push_within.ensures.len);
      same =
          ap (λ text. text ++ behind) c.push_within.ensures.items ∙ append_assoc c.loop-rest.out.items ((48 + rest / unit) ∷ []) behind
          ∙ ap (λ text. c.loop-rest.out.items ++ text) (sym step) ∙ c.loop-rest.invariant.same;
    }

pub returns : goal.returns
returns c =
    let none : c.loop-rest.rest ≡ 0 = omega arith in
    record {
      items = sym (append-nil c.loop-rest.out.items) ∙ ap (λ text. c.loop-rest.out.items ++ text) (sym (ap (fraction_text c.loop-rest.places) none ∙ fraction_done c.loop-rest.places)) ∙ c.loop-rest.invariant.same;
    }
