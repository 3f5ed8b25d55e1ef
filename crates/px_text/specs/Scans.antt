-- What a scan keeps of the part of a text that it has taken.
use Rattle.std.specs.Prelude.{◌≡◌, ℕ, ◌^◌, min, Bool, false, true, nat_lt, List, [], ◌++◌, length, take, drop, Option, Some, None, unwrap_or}
use Rattle.std.specs.List.{list_all}
use Rattle.px_text.specs.declared.digit_runs.WholeDigits.{WholeDigits}
use Rattle.px_text.specs.declared.digit_runs.FractionDigits.{FractionDigits}
use Rattle.px_text.specs.declared.scan.NumberScan.{NumberScan}
use Rattle.px_text.specs.declared.scan.Stage.{Stage}
use Rattle.px_text.specs.declared.scan.Stage.TheVariants.{Before, InWhole, InFraction, Behind, NotANumber}
use Rattle.px_text.specs.Names.{is_digit}
use Rattle.px_text.specs.Numbers.{Numeral, value, front, past, numeral_if, unsigned, numeral}

-- the digits before a point, of which no more matters than 10 ^ 18 and 19 places
pub record IsWhole (kept : WholeDigits) (digits : List ℕ) : Type 0 where
  pub value_is : kept.value ≡ min (value digits) (10 ^ 18)
  pub count_is : kept.count ≡ min (length digits) 19

-- the digits after a point, cut behind the eighteenth
pub record IsFraction (kept : FractionDigits) (digits : List ℕ) : Type 0 where
  pub value_is : kept.value ≡ value (take 18 digits)
  pub count_is : kept.count ≡ min (length digits) 19
  pub below_is : kept.goes_below ≡ nat_lt 0 (value (drop 18 digits))

-- The numeral of a text whose part up to this stage has a sign, digits and maybe a point, and whose other bytes are these.
abbrev pub goes_on : Stage → Bool → List ℕ → Option (List ℕ) → (rest : List ℕ) → Option Numeral
goes_on Before is_negative whole fraction rest = numeral rest
goes_on InWhole is_negative whole fraction rest = unsigned is_negative (whole ++ rest)
goes_on InFraction is_negative whole fraction rest =
    numeral_if is_negative whole (Some (unwrap_or fraction [] ++ front is_digit rest)) (past is_digit rest)
goes_on Behind is_negative whole fraction rest = numeral_if is_negative whole fraction rest
goes_on NotANumber is_negative whole fraction rest = None

-- what cannot have been seen yet at a stage
abbrev pub IsBegun : Stage → Bool → List ℕ → Option (List ℕ) → Type 0
IsBegun Before is_negative whole fraction = (is_negative ≡ false) × (whole ≡ []) × (fraction ≡ None)
IsBegun InWhole is_negative whole fraction = fraction ≡ None
IsBegun InFraction is_negative whole fraction = fraction ≡ Some (unwrap_or fraction [])
IsBegun Behind is_negative whole fraction = Unit {0}
IsBegun NotANumber is_negative whole fraction = Unit {0}

-- The scan has taken this text: however the text goes on, what it spells follows from what the scan keeps.
pub record HasTaken (scan : NumberScan) (text : List ℕ) : Type 0 where
  pub whole : List ℕ
  pub fraction : Option (List ℕ)
  pub whole_is : IsWhole scan.whole whole
  pub fraction_is : IsFraction scan.fraction (unwrap_or fraction [])
  pub whole_digits : list_all is_digit whole ≡ true
  pub fraction_digits : list_all is_digit (unwrap_or fraction []) ≡ true
  pub begun : IsBegun scan.stage scan.is_negative whole fraction
  pub goes : (rest : List ℕ) → numeral (text ++ rest) ≡ goes_on scan.stage scan.is_negative whole fraction rest

-- the numeral of a scan's sign and these digits
abbrev pub numeral_of : NumberScan → List ℕ → Option (List ℕ) → Numeral
numeral_of scan whole fraction = record { is_negative = scan.is_negative; whole = whole; fraction = fraction }
