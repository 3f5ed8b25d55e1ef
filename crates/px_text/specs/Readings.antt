-- The decimal that a numeral is, if it is short enough.
use Rattle.std.specs.Prelude.{Bool, nat_lt, ◌||◌, length, Option, Some, None, if◌then◌else◌}
use Rattle.px_text.specs.declared.reading.Reading.{Reading}
use Rattle.px_text.specs.declared.reading.Reading.TheVariants.{Value, Long, NotANumber}
use Rattle.px_text.specs.Numbers.{Numeral, fraction_of, units_of}

-- more than 18 digits stand before or after the point
abbrev pub is_long : Numeral → Bool
is_long n = nat_lt 18 (length n.whole) || nat_lt 18 (length (fraction_of n))

abbrev pub reading_of : Option Numeral → Reading
reading_of None = NotANumber
reading_of (Some n) = if is_long n then Long else Value (units_of n.is_negative n.whole (fraction_of n))
