use Rattle.std.proofs.Common.{◌≡◌, ◌+◌, ◌-◌, ◌*◌, ◌^◌, ◌++◌, rules, FitsSigned, length, arith, ap, sym, ◌∙◌}
use Rattle.std.specs.Int.{w128}
use Rattle.std.proofs.lemmas.Int.{to_z-of_z}
use Rattle.px_text.specs.Numbers.{signed, value}
use Rattle.px_text.proofs.Digits.{power_at_most, fraction_below_one, units_by_parts}
use Rattle.px_text.proofs.decimal.Decimal.of_digits.Goals as goal

pub signed-requires : goal.signed-requires
signed-requires c =
    let p = power_at_most (length c.args.whole.now) 18 c.requires.short_whole in
    let f = fraction_below_one c.value_of-2.result (length c.args.fraction.now) c.value_of-2.ensures.bounded c.requires.short_fraction in
    rw (c.from.ensures, c.pow.ensures) (omega arith)

pub returns : goal.returns
returns c =
    let fits : FitsSigned w128 c.signed.result = search rules in
    let parts = units_by_parts c.args.whole.now c.args.fraction.now c.requires.short_fraction in
    let units : c.from-before.result * 10 ^ 18 + c.from.result * c.pow.result ≡ value (c.args.whole.now ++ c.args.fraction.now) * 10 ^ (18 - length c.args.fraction.now) =
    rw (c.from.ensures, c.pow.ensures, c.value_of-2.ensures.value, c.from-before.ensures, c.value_of.ensures.value) (sym parts)
    in
    to_z-of_z w128 c.signed.result fits ∙ c.signed.ensures.value ∙ ap (signed c.args.is_negative) units
