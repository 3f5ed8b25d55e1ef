-- What the reading of options answers, in the words of their definitions.
use Rattle.std.specs.Prelude.{◌≡◌, ℕ, Bool, true, false, List, length, map, nat_lt, Option, Some, None, MatchOption, Result, Ok, Err, bytes_eq, not, codes, string_bytes}
use Rattle.std.specs.declared.string.String.{String}
use Rattle.px_options.specs.OptionWords.{Rule, number_in}
use Rattle.px_options.specs.declared.CommandOption.{CommandOption}
use Rattle.px_options.specs.declared.OptionsError.{OptionsError}
use Rattle.px_options.specs.declared.OptionsError.TheVariants.{Usage, Memory}

-- the words as bytes
abbrev pub texts : {A : Type 0} → List (String A) → List (List ℕ)
texts = map string_bytes

abbrev pub rule_of : CommandOption → Rule
rule_of option = record { name = option.name.now; least = option.least; most = option.most; otherwise = option.default }

abbrev pub name_of : CommandOption → List ℕ
name_of option = option.name.now

-- its name is not empty
abbrev pub has_name : CommandOption → Bool
has_name option = nat_lt 0 (length option.name.now)

-- the word is not `--`
abbrev pub is_word : List ℕ → Bool
is_word word = not (bytes_eq word (codes "--"))

-- the value of an option by the text that was found for it
abbrev pub value_of_text : Rule → Option (List ℕ) → Option ℕ
value_of_text rule None = rule.otherwise
value_of_text rule (Some text) = number_in rule.least rule.most text

-- the values were written, or there are none
abbrev pub HasWritten : Option (List ℕ) → Bool → List ℕ → Type 0
HasWritten found was_written values = MatchOption found (was_written ≡ false) (λ wanted. (was_written ≡ true) × (values ≡ wanted))

-- the values that the words give were written, the words give none, or memory was wanting
abbrev pub ReadsValues : {T : Type 0} → Option (List ℕ) → Result T OptionsError → List ℕ → Type 0
ReadsValues found (Ok done) values = found ≡ Some values
ReadsValues found (Err Usage) values = found ≡ None
ReadsValues found (Err Memory) values = Unit {0}
