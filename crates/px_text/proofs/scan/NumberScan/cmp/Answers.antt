use Rattle.std.proofs.Common.{◌≡◌, ◌++◌, [], ◌^◌, length, Some, None, option_map, unwrap_or, FitsSigned, rules, lit<, ap, sym, ◌∙◌}
use Rattle.std.specs.Int.{w128}
use Rattle.std.proofs.Math.Nat.{one-le-pow}
use Rattle.std.proofs.lemmas.Int.{to_z-of_z}
use Rattle.px_text.specs.Numbers.{value, number_of, order, decimal_of, numeral}
use Rattle.px_text.specs.Scans.{numeral_of}
use Rattle.px_text.proofs.Comparing.{order_by_signs}
use Rattle.px_text.proofs.scan.NumberScan.cmp.Goals as goal

pub returns-then-not-is_number : goal.returns-then-not-is_number
returns-then-not-is_number c = λ text h.
    let none : numeral text ≡ None = rw c.if-not-is_number.true at (c.is_number.ensures text h) in
    sym (ap (λ m. option_map (λ n. order n (decimal_of c.args.decimal.now)) (option_map number_of m)) none)

pub returns : goal.returns
returns c = λ text h.
    let some : numeral text ≡ Some (numeral_of c.args.self.now h.whole h.fraction) = rw c.if-not-is_number.false at (c.is_number.ensures text h) in
    let fraction = unwrap_or h.fraction [] in
    let fits : FitsSigned w128 c.units-units.result = search rules in
    let units = to_z-of_z w128 c.units-units.result fits ∙ c.units-units.ensures.same in
    ap Some (order_by_signs c.args.self.now.is_negative (value (h.whole ++ fraction)) (10 ^ 18) c.args.decimal.now (10 ^ length fraction) _ c.unsigned_abs.result c.cmp_size-size.result c.with_signs.result
    (one-le-pow (length fraction) 10 (lit< tt)) units c.unsigned_abs.ensures.value (c.cmp_size-size.ensures h.whole fraction h.whole_is h.fraction_is h.fraction_digits) c.with_signs.ensures)
    ∙ sym (ap (λ m. option_map (λ n. order n (decimal_of c.args.decimal.now)) (option_map number_of m)) some)
