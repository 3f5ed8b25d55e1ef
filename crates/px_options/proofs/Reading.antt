-- What clap's answer to words says of the values that they give.
use Rattle.std.proofs.Common.{◌≡◌, ◌∙◌, ◌∷◌, [], Bool, true, false, ◌==◌, List, Option, Some, None, refl, sym, ap, is_some, arith, inl, inr}
use Rattle.std.specs.Prelude.{bytes_eq}
use Rattle.std.specs.List.{list_all}
use Rattle.std.proofs.lemmas.Bool.Decides.{nat_tests}
use Rattle.std.proofs.lemmas.Bool.{and_from, and_parts}
use Rattle.clap.specs.Walk.{Text}
use Rattle.clap.specs.Kinds.{Kinds, HasKind}
use Rattle.clap.specs.Values.{kind_of}
use Rattle.clap.specs.Faults.{fault_of}
use Rattle.clap.specs.Simple.{matches_of}
use Rattle.clap.specs.declared.error.Error.{Error}
use Rattle.clap.specs.declared.error.kind.ErrorKind.TheVariants as kind
use Rattle.px_options.specs.Commands.{asked_app}
use Rattle.px_options.specs.OptionAnswers.{is_word}
use Rattle.px_options.specs.OptionWords.{Rule, Use, Spelt, Alone, Whole, Neither, is_numeral, spelt, uses_behind, uses_by, values_in}
use Rattle.px_options.proofs.Alike.{not_some, same_text}
use Rattle.px_options.proofs.Lookups.{knows}
use Rattle.px_options.proofs.Parses.{parses}
use Rattle.px_options.proofs.Scan.{Idle, scan}
use Rattle.px_options.proofs.Rows.{rows_for}
use Rattle.px_options.proofs.Uses.{asked_named, found_by_scan, is_named, is_numbered, scanned, split_more}
use Rattle.px_options.proofs.Values.{gives, names_of, values_are, values_by_rows}
use Rattle.px_options.proofs.Walks.{Agrees}

-- ---- words that give values are not `--`

numeral_word : (word : Text) → is_numeral word ≡ true → is_word word ≡ true
numeral_word [] e = absurd (cc)
numeral_word (byte ∷ word) e = let other : (byte == 45) ≡ false = grind (arith, nat_tests) in rw other refl

two_hyphens : (word : Text) → is_word word ≡ false → word ≡ 45 ∷ 45 ∷ []
two_hyphens word e = go (bytes_eq word (45 ∷ 45 ∷ [])) refl
  where
    go : (b : Bool) → bytes_eq word (45 ∷ 45 ∷ []) ≡ b → word ≡ 45 ∷ 45 ∷ []
    go true eb = same_text word (45 ∷ 45 ∷ []) eb
    go false eb = let bad : true ≡ false = rw eb at e in absurd (cc)

module _ (names : List Text) (named-all : knows names [] ≡ false) where
  abbrev Holds : List Use → Type 0
  Holds uses = (list_all (is_named names) uses ≡ true) × (list_all is_numbered uses ≡ true)

  others_hold : (first : Use) (others uses : List Use) → uses ≡ first ∷ others → Holds uses → (is_numbered first ≡ true) × Holds others
  others_hold first others uses parts holds =
      let named = and_parts (is_named names first) _ (ap (list_all (is_named names)) (sym parts) ∙ holds.0) in
      let numbered = and_parts (is_numbered first) _ (ap (list_all is_numbered) (sym parts) ∙ holds.1) in
      (numbered.0, (named.1, numbered.1))

  first_word : (word : Text) (words : List Text) (uses : List Use) → uses_behind None (word ∷ words) ≡ Some uses → Holds uses → is_word word ≡ true
  first_word word words uses e holds = go (is_word word) refl
    where
      go : (b : Bool) → is_word word ≡ b → is_word word ≡ true
      go true eb = eb
      go false eb =
          let waits : uses_behind (Some []) words ≡ Some uses = ap (λ w. uses_behind None (w ∷ words)) (sym (two_hyphens word eb)) ∙ e in
          let bad : true ≡ false = sym (asked_named names [] words uses waits holds.0) ∙ named-all in
          absurd (cc)

  pub all_words : (words : List Text) (waiting : Option Text) (uses : List Use) → uses_behind waiting words ≡ Some uses → Holds uses → list_all is_word words ≡ true
  all_words [] waiting uses e holds = refl
  all_words (word ∷ words) (Some name) uses e holds =
      let split = split_more (name, word) (uses_behind None words) uses e in
      let rest = others_hold (name, word) split.others uses split.parts holds in
      and_from _ _ (numeral_word word rest.0) (all_words words None split.others split.behind rest.1)
  all_words (word ∷ words) None uses e holds = and_from _ _ (first_word word words uses e holds) (go (spelt word) refl (all_words words))
    where
      go : (s : Spelt) → spelt word ≡ s → ((waiting : Option Text) (uses : List Use) → uses_behind waiting words ≡ Some uses → Holds uses → list_all is_word words ≡ true)
          → list_all is_word words ≡ true
      go (Alone name) es rest = rest (Some name) uses (ap (λ s. uses_by s (λ waiting. uses_behind waiting words)) (sym es) ∙ e) holds
      go (Whole name text) es rest =
          let split = split_more (name, text) (uses_behind None words) uses (ap (λ s. uses_by s (λ waiting. uses_behind waiting words)) (sym es) ∙ e) in
          rest None split.others split.behind (others_hold (name, text) split.others uses split.parts holds).1
      go Neither es rest = absurd (not_some (ap (λ s. uses_by s (λ waiting. uses_behind waiting words)) (sym es) ∙ e))

none_of : {A : Type 0} (found : Option A) → (is_some found ≡ true → ⊥) → found ≡ None
none_of None no-value = refl
none_of (Some x) no-value = absurd (no-value refl)

-- words among which `--` is give no values
pub hyphens_refused : (rules : List Rule) (words : List Text) → knows (names_of rules) [] ≡ false → list_all is_word words ≡ false → values_in rules words ≡ None
hyphens_refused rules words named-all hyphens = none_of (values_in rules words) (λ some.
    let given = gives rules words some in
    let all = all_words (names_of rules) named-all words None given.uses given.given (given.named, given.numbered) in
    let bad : true ≡ false = sym all ∙ hyphens in
    absurd (cc))

-- ---- clap's answer

module _ (label : Text) (rules : List Rule) (words : List Text) (whole : list_all is_word words ≡ true) where
  pub taken : fault_of (asked_app label (names_of rules)) words ≡ [] → values_in rules words ≡ values_by_rows rules (matches_of (asked_app label (names_of rules)) words)
  taken none = go (scan (names_of rules) (Idle [] None) words) refl (parses label (names_of rules) words whole)
    where
      go : (found : Option (List Use)) → scan (names_of rules) (Idle [] None) words ≡ found
          → Agrees (fault_of (asked_app label (names_of rules)) words) (matches_of (asked_app label (names_of rules)) words) found
          → values_in rules words ≡ values_by_rows rules (matches_of (asked_app label (names_of rules)) words)
      go None e refuses = absurd (refuses none)
      go (Some uses) e takes =
          let found = found_by_scan (names_of rules) words whole (Idle [] None) uses refl e in
          values_are words rules found.more found.given found.named found.once ∙ ap (λ us. values_by_rows rules (rows_for us)) (sym found.whole)
          ∙ ap (values_by_rows rules) (sym takes.1)

  pub refused : (fault_of (asked_app label (names_of rules)) words ≡ [] → ⊥) → values_in rules words ≡ None
  refused fault = none_of (values_in rules words) (λ some.
      let given = gives rules words some in
      go (scan (names_of rules) (Idle [] None) words) refl (parses label (names_of rules) words whole)
      (scanned (names_of rules) words whole (Idle [] None) given.uses given.given (given.named, given.numbered, given.once, refl)))
    where
      go : (found : Option (List Use)) → scan (names_of rules) (Idle [] None) words ≡ found
          → Agrees (fault_of (asked_app label (names_of rules)) words) (matches_of (asked_app label (names_of rules)) words) found
          → (scan (names_of rules) (Idle [] None) words ≡ None → ⊥) → ⊥
      go None e refuses some = some e
      go (Some uses) e takes some = fault takes.0

-- an error of another kind than want of memory comes of a fault
pub faulty : (kinds : Kinds) (error : Error) → HasKind kinds error → (kind_of error ≡ kind.OutOfMemory → ⊥) → kinds ≡ [] → ⊥
faulty [] error (inl e) other none = other e
faulty [] error (inr e) other none = e
faulty (k ∷ ks) error h other none = absurd (cc)
