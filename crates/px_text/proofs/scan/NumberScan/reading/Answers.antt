use Rattle.std.proofs.Common.{◌≡◌, nat_lt, true, false, length, Some, None, unwrap_or, [], refl, arith, ap, sym, ◌∙◌}
use Rattle.px_text.specs.Numbers.{numeral, signed}
use Rattle.px_text.specs.Readings.{reading_of}
use Rattle.px_text.specs.Scans.{numeral_of}
use Rattle.px_text.proofs.Digits.{power_at_most}
use Rattle.px_text.proofs.Scanning.{kept_units, many, few, reads_long, reads_value}
use Rattle.px_text.proofs.scan.NumberScan.reading.Goals as goal

pub returns-then-not-is_number : goal.returns-then-not-is_number
returns-then-not-is_number c = λ text h.
    let none : numeral text ≡ None = rw c.if-not-is_number.true at (c.is_number.ensures text h) in
    sym (ap reading_of none)

pub returns-then-self-gt-PLACES : goal.returns-then-self-gt-PLACES
returns-then-self-gt-PLACES c = λ text h.
    let some : numeral text ≡ Some (numeral_of c.args.self.now h.whole h.fraction) = rw c.if-not-is_number.false at (c.is_number.ensures text h) in
    let long : nat_lt 18 (length h.whole) ≡ true = many c.args.self.now.whole.count h.whole h.whole_is.count_is c.if-self-gt-PLACES.true in
    reads_long (numeral text) (numeral_of c.args.self.now h.whole h.fraction) some (rw long refl)

pub returns-then-self-gt-PLACES-2 : goal.returns-then-self-gt-PLACES-2
returns-then-self-gt-PLACES-2 c = λ text h.
    let some : numeral text ≡ Some (numeral_of c.args.self.now h.whole h.fraction) = rw c.if-not-is_number.false at (c.is_number.ensures text h) in
    let short : nat_lt 18 (length h.whole) ≡ false = few c.args.self.now.whole.count h.whole h.whole_is.count_is c.if-self-gt-PLACES.false in
    let long : nat_lt 18 (length (unwrap_or h.fraction [])) ≡ true = many c.args.self.now.fraction.count (unwrap_or h.fraction []) h.fraction_is.count_is c.if-self-gt-PLACES-2.true in
    reads_long (numeral text) (numeral_of c.args.self.now h.whole h.fraction) some (rw (short, long) refl)

pub of_units-requires : goal.of_units-requires
of_units-requires c =
    let p = power_at_most c.args.self.now.whole.count 18 c.if-self-gt-PLACES.false in
    omega (arith, c.size.ensures.bounded, c.args.self.now.whole.bounded)

pub returns : goal.returns
returns c = λ text h.
    let some : numeral text ≡ Some (numeral_of c.args.self.now h.whole h.fraction) = rw c.if-not-is_number.false at (c.is_number.ensures text h) in
    let fraction = unwrap_or h.fraction [] in
    let short : nat_lt 18 (length h.whole) ≡ false = few c.args.self.now.whole.count h.whole h.whole_is.count_is c.if-self-gt-PLACES.false in
    let short_fraction : nat_lt 18 (length fraction) ≡ false = few c.args.self.now.fraction.count fraction h.fraction_is.count_is c.if-self-gt-PLACES-2.false in
    let units = c.size.ensures.value ∙ kept_units c.args.self.now.whole c.args.self.now.fraction h.whole fraction h.whole_is h.fraction_is c.if-self-gt-PLACES.false c.if-self-gt-PLACES-2.false in
    reads_value (numeral text) (numeral_of c.args.self.now h.whole h.fraction) c.of_units.result some (rw (short, short_fraction) refl)
    (c.of_units.ensures ∙ ap (signed c.args.self.now.is_negative) units)
