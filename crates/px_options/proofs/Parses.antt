-- Where clap has a fault, and which rows it keeps, by a scan of the words.
use Rattle.std.proofs.Common.{◌≡◌, ◌∙◌, ◌∷◌, [], ℕ, Bool, true, false, not, ◌&&◌, List, map, Option, Some, None, refl, sym, ap, ap₂, subst₂, is_some, if◌then◌else◌}
use Rattle.std.specs.List.{list_all, list_any}
use Rattle.std.proofs.lemmas.Bool.{and_from}
use Rattle.clap.specs.Kinds.{Kinds, or_else}
use Rattle.clap.specs.Faults.{built_fault, check_fault, defaults_fault, default_fault, entered_fault, fault_of, is_simple_and_free, is_free_app, level_fault, settle_fault, walk_fault}
use Rattle.clap.specs.Takes.{is_given}
use Rattle.clap.specs.Walk.{Text, Row, Held, has_row, is_early_multiple, nothing_held, settled, walk, walk_from, with_default, rows_after}
use Rattle.clap.specs.Simple.{App, entered, is_ready, is_ready_leaf, is_simple, matches_of}
use Rattle.px_options.specs.Commands.{asked_app, asked_rule}
use Rattle.px_options.specs.OptionAnswers.{is_word}
use Rattle.px_options.proofs.Lookups.{built_app, built_shape, option_rule, rules_for}
use Rattle.px_options.proofs.Rows.{no_defaults, walk_of}
use Rattle.px_options.proofs.Scan.{Idle, scan}
use Rattle.px_options.proofs.Walks.{Agrees, rest_fault, rest_rows, walks}

abbrev built_for : Text → List Text → App
built_for label names = record { top = built_shape label names; subs = [] }

-- ---- the command is simple

asked_simple : (names : List Text) → list_all (λ a. a.is_simple) (map asked_rule names) ≡ true
asked_simple [] = refl
asked_simple (name ∷ names) = asked_simple names

rules_simple : (names : List Text) → list_all (λ a. a.is_simple) (rules_for names) ≡ true
rules_simple [] = refl
rules_simple (name ∷ names) = rules_simple names

rules_free : (names : List Text) → list_all (λ a. a.is_free) (rules_for names) ≡ true
rules_free [] = refl
rules_free (name ∷ names) = rules_free names

none_early : (n : ℕ) (names : List Text) → list_any (is_early_multiple n) (rules_for names) ≡ false
none_early n [] = refl
none_early n (name ∷ names) = none_early n names

pub asked_is_simple : (label : Text) (names : List Text) → is_simple (asked_app label names) ≡ true
asked_is_simple label names =
    and_from _ _ (rw (asked_simple names) refl)
    (ap (λ (a : App). is_ready a.top && list_all is_ready_leaf a.subs) (built_app label names) ∙ rw (rules_simple names, none_early _ names) refl)

pub asked_is_free : (label : Text) (names : List Text) → is_simple_and_free (asked_app label names) ≡ true
asked_is_free label names = and_from _ _ (asked_is_simple label names) (ap is_free_app (built_app label names) ∙ rw (rules_free names) refl)

-- ---- behind the words

or_else-nil : (a : Kinds) → or_else a [] ≡ a
or_else-nil [] = refl
or_else-nil (k ∷ ks) = refl

kept_rows : (b : Bool) (rows : List Row) → (if b then rows else rows) ≡ rows
kept_rows true rows = refl
kept_rows false rows = refl

no_default_fault : (rows : List Row) (name : Text) → default_fault rows (option_rule name) ≡ []
no_default_fault rows name = go (has_row name rows) refl
  where
    go : (b : Bool) → has_row name rows ≡ b → default_fault rows (option_rule name) ≡ []
    go true e = rw e refl
    go false e = rw e refl

no_defaults_fault : (rows : List Row) (names : List Text) → defaults_fault rows (rules_for names) ≡ []
unfolding defaults_fault
no_defaults_fault rows [] = refl
no_defaults_fault rows (name ∷ names) =
    ap (λ ks. or_else ks (defaults_fault (with_default rows (option_rule name)) (rules_for names))) (no_default_fault rows name)
    ∙ ap (λ now. defaults_fault now (rules_for names)) (kept_rows (has_row name rows) rows) ∙ no_defaults_fault rows names

none_required : (rows : List Row) (names : List Text) → list_any (λ a. a.required && not (is_given a.id rows)) (rules_for names) ≡ false
none_required rows [] = refl
none_required rows (name ∷ names) = none_required rows names

module _ (label : Text) (names : List Text) where
  no_check_fault : (rows : List Row) → check_fault (built_shape label names) rows false ≡ []
  no_check_fault rows = rw (none_required rows names) refl

  at_level : (words : List Text) → level_fault (built_shape label names) [] nothing_held words false [] ≡ rest_fault (built_shape label names) (walk_of (Idle [] None)) words
  at_level words =
      let s = built_shape label names in
      let done : Held = (walk s.rules [] nothing_held words).held in
      ap₂ (λ ds cs. or_else (walk_fault s [] (walk_from nothing_held) words) (or_else (settle_fault s.rules false done) (or_else ds cs)))
      (no_defaults_fault (settled s.rules done).rows names) (no_check_fault _)
      ∙ ap (or_else (walk_fault s [] (walk_from nothing_held) words)) (or_else-nil (settle_fault s.rules false done))

  entering : (words : List Text) (stop : Option (Text × List Text))
      → level_fault (built_shape label names) [] nothing_held words (is_some (entered (built_for label names) stop)) (entered_fault (built_for label names) stop)
      ≡ level_fault (built_shape label names) [] nothing_held words false []
  entering words None = refl
  entering words (Some stop) = refl

  pub fault_is : (words : List Text) → fault_of (asked_app label names) words ≡ rest_fault (built_shape label names) (walk_of (Idle [] None)) words
  fault_is words = ap (λ a. built_fault a nothing_held words) (built_app label names) ∙ entering words _ ∙ at_level words

  pub matches_are : (words : List Text) → matches_of (asked_app label names) words ≡ rest_rows (built_shape label names) (walk_of (Idle [] None)) words
  matches_are words =
      ap (λ (a : App). rows_after a.top.rules [] words) (built_app label names) ∙ no_defaults names _

  -- clap takes the words as a scan of them does
  pub parses : (words : List Text) → list_all is_word words ≡ true
      → Agrees (fault_of (asked_app label names) words) (matches_of (asked_app label names) words) (scan names (Idle [] None) words)
  parses words all =
      subst₂ (λ f rows. Agrees f rows (scan names (Idle [] None) words)) (sym (fault_is words)) (sym (matches_are words)) (walks label names words all (Idle [] None) refl)
