use Rattle.std.proofs.Common.{◌+◌, ◌*◌, ◌∷◌, [], min, length-append, ap, ◌∙◌, arith}
use Rattle.px_text.proofs.Digits.{digit_between, one_more_digit_below, capped_more, capped_below}
use Rattle.px_text.proofs.digit_runs.WholeDigits.and.Goals as goal

pub invariant_of-result : goal.invariant_of-result
invariant_of-result c =
    let d = digit_between c.args.digit c.requires in
    let more = one_more_digit_below c.args.self.value c.args.self.count c.args.digit c.args.self.bounded d.1 in
    let below = capped_below (c.args.self.value * 10 + c.from.result) c.args.self.count c.min-2.result (omega arith) (c.min-2.ensures ∙ ap (λ n. min n 19) c.saturating_add.ensures) in
    record { capped = omega (arith, c.min.ensures); bounded = omega (arith, c.min.ensures) }

pub returns : goal.returns
returns c = λ digits h. record {
  value_is = omega (arith, capped_more digits c.args.digit c.args.self.value h.value_is);
  count_is = omega (arith, length-append digits (c.args.digit ∷ []), h.count_is);
}
