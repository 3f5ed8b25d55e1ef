use Rattle.std.proofs.Common.{◌≤◌, ◌+◌, ◌∷◌, [], length, length-append, ◌∙◌, arith}
use Rattle.px_text.proofs.Digits.{digit_between, one_more_digit_below, power_at_most, long_value, long_rest}
use Rattle.px_text.proofs.digit_runs.FractionDigits.and.Goals as goal

pub invariant_of-result : goal.invariant_of-result
invariant_of-result c =
    let d = digit_between c.args.digit c.requires in
    let more = one_more_digit_below c.args.self.value c.args.self.count c.args.digit c.args.self.bounded d.1 in
    let p = power_at_most (c.args.self.count + 1) 18 (omega arith) in
    record { capped = omega arith; bounded = omega arith }

pub returns : goal.returns
returns c = λ digits h.
    let long : 18 ≤ length digits = omega (arith, h.count_is) in
    record {
      value_is = h.value_is ∙ long_value digits c.args.digit long;
      count_is = omega (arith, length-append digits (c.args.digit ∷ []));
      below_is = long_rest digits c.args.digit c.args.self.goes_below long c.requires h.below_is;
    }
