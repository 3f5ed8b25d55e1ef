-- What the reading answers, by what clap does.
use Rattle.std.proofs.Common.{◌≡◌, ◌≢◌, ◌∙◌, ◌∷◌, [], ℕ, Bool, true, false, List, length, map, nat_lt, Option, Some, None, Err, refl, sym, ap, ap₂, codes, string_bytes, String}
use Rattle.std.specs.Prelude.{bytes_eq}
use Rattle.std.specs.List.{list_all}
use Rattle.std.proofs.lemmas.Bool.{and_parts}
use Rattle.std.proofs.lemmas.List.Folds.{list_all-map}
use Rattle.clap.specs.Faults.{fault_of, is_simple_and_free}
use Rattle.clap.specs.Kinds.{HasKind}
use Rattle.clap.specs.Matches.{found_of}
use Rattle.clap.specs.Simple.{HasMatchesOf, app_of, is_simple, matches_of}
use Rattle.clap.specs.Values.{kind_of}
use Rattle.clap.specs.Walk.{Text, first_of, rows_of}
use Rattle.clap.specs.declared.builder.command.Command.{Command}
use Rattle.clap.specs.declared.error.Error.{Error}
use Rattle.clap.specs.declared.error.kind.ErrorKind.TheVariants.{OutOfMemory}
use Rattle.clap.specs.declared.parser.matches.ArgMatches.{ArgMatches}
use Rattle.clap.specs.declared.parser.matches.Found.{Found}
use Rattle.clap.proofs.WalkLemmas.{first_value-rows}
use Rattle.px_options.specs.Commands.{asked_app}
use Rattle.px_options.specs.FoundValues.{value_found}
use Rattle.px_options.specs.OptionAnswers.{HasWritten, ReadsValues, has_name, is_word, name_of, rule_of, texts, value_of_text}
use Rattle.px_options.specs.OptionWords.{all_of, values_in}
use Rattle.px_options.specs.declared.CommandOption.{CommandOption}
use Rattle.px_options.specs.declared.OptionsError.{OptionsError}
use Rattle.px_options.specs.declared.OptionsError.TheVariants.{Usage, Memory}
use Rattle.px_options.proofs.Lookups.{knows}
use Rattle.px_options.proofs.Parses.{asked_is_free, asked_is_simple}
use Rattle.px_options.proofs.Reading.{faulty, hyphens_refused, refused, taken}
use Rattle.px_options.proofs.Values.{names_of, values_by_rows}

names_are : (options : List CommandOption) → names_of (map rule_of options) ≡ map name_of options
names_are [] = refl
names_are (option ∷ options) = ap (λ names. option.name.now ∷ names) (names_are options)

-- no option has the empty name
none_empty : (options : List CommandOption) → list_all has_name options ≡ true → knows (names_of (map rule_of options)) [] ≡ false
none_empty [] e = refl
none_empty (option ∷ options) e = rw (other option.name.now (and_parts (has_name option) _ e).0) (none_empty options (and_parts (has_name option) _ e).1)
  where
    other : (name : Text) → nat_lt 0 (length name) ≡ true → bytes_eq name [] ≡ false
    other [] e = absurd (cc)
    other (byte ∷ name) e = refl

each_found : (options : List CommandOption) (found : Found)
    → map (value_found found) options ≡ map (λ rule. value_of_text rule (first_of rule.name (rows_of found))) (map rule_of options)
each_found [] found = refl
each_found (option ∷ options) found =
    ap₂ (λ one others. one ∷ others) (ap (value_of_text (rule_of option)) (first_value-rows found option.name.now)) (each_found options found)

pub was_written : (found : Option (List ℕ)) (was : Bool) (values : List ℕ) → HasWritten found was values → was ≡ true → found ≡ Some values
was_written None was values h e = absurd (cc)
was_written (Some wanted) was values h e = ap (λ vs. Some vs) (sym h.1)

pub not_written : (found : Option (List ℕ)) (was : Bool) (values : List ℕ) → HasWritten found was values → was ≡ false → found ≡ None
not_written None was values h e = refl
not_written (Some wanted) was values h e = absurd (cc)

pub answers_error : (T : Type 0) (found : Option (List ℕ)) (error : OptionsError) (values : List ℕ) → (error ≡ Usage → found ≡ None) → ReadsValues {T = T} found (Err error) values
answers_error T found Usage values none = none refl
answers_error T found Memory values none = tt

-- no word is `--`, by the words as they come
pub words_checked : {A : Type 0} (words : List (String A)) (checked : Bool) (b : Bool) → checked ≡ list_all (λ word. is_word (string_bytes word)) words → checked ≡ b
    → list_all is_word (texts words) ≡ b
words_checked words checked b e eb = list_all-map is_word string_bytes words ∙ sym e ∙ eb

pub hyphens : (options : List CommandOption) (words : List Text) → list_all has_name options ≡ true → list_all is_word words ≡ false
    → values_in (map rule_of options) words ≡ None
hyphens options words named e = hyphens_refused (map rule_of options) words (none_empty options named) e

module _ (options : List CommandOption) (words : List Text) (command : Command) (is : app_of command ≡ asked_app (codes "xpush") (map name_of options))
    (whole : list_all is_word words ≡ true) where
  same : app_of command ≡ asked_app (codes "xpush") (names_of (map rule_of options))
  same = is ∙ ap (asked_app (codes "xpush")) (sym (names_are options))

  free : is_simple_and_free (app_of command) ≡ true
  free = ap is_simple_and_free same ∙ asked_is_free (codes "xpush") (names_of (map rule_of options))

  simple : is_simple (app_of command) ≡ true
  simple = ap is_simple same ∙ asked_is_simple (codes "xpush") (names_of (map rule_of options))

  -- where clap takes the words, they give the values that it found
  pub clap_takes : (matches : ArgMatches) → HasMatchesOf (app_of command) words matches
      → (is_simple_and_free (app_of command) ≡ true → fault_of (app_of command) words ≡ [])
      → values_in (map rule_of options) words ≡ all_of (map (value_found (found_of matches)) options)
  clap_takes matches rows faultless =
      let none : fault_of (asked_app (codes "xpush") (names_of (map rule_of options))) words ≡ [] = ap (λ app. fault_of app words) (sym same) ∙ faultless free in
      let kept : rows_of (found_of matches) ≡ matches_of (asked_app (codes "xpush") (names_of (map rule_of options))) words = (rows simple).0 ∙ ap (λ app. matches_of app words) same in
      taken (codes "xpush") (map rule_of options) words whole none ∙ ap (values_by_rows (map rule_of options)) (sym kept)
      ∙ ap all_of (sym (each_found options (found_of matches)))

  -- where clap refuses the words, they give no values
  pub clap_refuses : (error : Error) → (is_simple_and_free (app_of command) ≡ true → HasKind (fault_of (app_of command) words) error) → kind_of error ≢ OutOfMemory
      → values_in (map rule_of options) words ≡ None
  clap_refuses error fails other =
      refused (codes "xpush") (map rule_of options) words whole (λ none. faulty _ error (fails free) other (ap (λ app. fault_of app words) same ∙ none))
