-- What clap makes of a command whose arguments are options with one value each.
use Rattle.std.proofs.Common.{◌≡◌, ◌∷◌, [], ℕ, Bool, true, false, List, map, Option, Some, None, refl, ap, if◌then◌else◌}
use Rattle.std.specs.Prelude.{bytes_eq}
use Rattle.std.specs.List.{list_any}
use Rattle.clap.specs.Walk.{Text, Rule, arg_by_id, arg_by_index, arg_by_long, arg_by_short}
use Rattle.clap.specs.Simple.{Shape, built, filled_from, new_rule, new_shape}
use Rattle.px_options.proofs.Alike.{same_text}
use Rattle.px_options.specs.Commands.{asked_app, asked_rule}
use Rattle.clap.specs.declared.builder.action.ArgAction.TheVariants.{Set}
use Rattle.clap.specs.declared.builder.value_parser.ValueParser.TheVariants as vp

-- an option as building fills it in
abbrev pub option_rule : Text → Rule
option_rule name = record (new_rule name) {
  long = Some name;
  action = Some Set;
  parser = Some vp.String;
  range = Some (record { start_inclusive = 1; end_inclusive = 1 });
}

abbrev pub rules_for : List Text → List Rule
rules_for = map option_rule

abbrev pub built_shape : Text → List Text → Shape
built_shape label names = record (new_shape label) {
  rules = rules_for names;
  no_binary_name = true;
  disable_help_flag = true;
  disable_help_subcommand = true;
  is_built = true;
}

filled_rules : (i : ℕ) (names : List Text) → filled_from i (map asked_rule names) ≡ rules_for names
filled_rules i [] = refl
filled_rules i (name ∷ names) = ap (λ rules. option_rule name ∷ rules) (filled_rules i names)

pub built_app : (label : Text) (names : List Text) → built (asked_app label names) ≡ record { top = built_shape label names; subs = [] }
built_app label names = ap (λ rules. record { top = record (built_shape label []) { rules = rules }; subs = [] }) (filled_rules 1 names)

-- ---- the lookups of the walk

abbrev pub knows : List Text → Text → Bool
knows names name = list_any (λ n. bytes_eq n name) names

abbrev pub known_rule : Bool → Text → Option Rule
known_rule is_known name = if is_known then Some (option_rule name) else None

pub by_long : (names : List Text) (name : Text) → arg_by_long (rules_for names) name ≡ known_rule (knows names name) name
by_long [] name = refl
by_long (n ∷ names) name = go (bytes_eq n name) refl (by_long names name)
  where
    go : (b : Bool) → bytes_eq n name ≡ b → arg_by_long (rules_for names) name ≡ known_rule (knows names name) name
        → arg_by_long (rules_for (n ∷ names)) name ≡ known_rule (knows (n ∷ names) name) name
    go true e rest = rw e (ap (λ m. Some (option_rule m)) (same_text n name e))
    go false e rest = rw e rest

pub by_id : (names : List Text) (name : Text) → arg_by_id (rules_for names) name ≡ known_rule (knows names name) name
by_id [] name = refl
by_id (n ∷ names) name = go (bytes_eq n name) refl (by_id names name)
  where
    go : (b : Bool) → bytes_eq n name ≡ b → arg_by_id (rules_for names) name ≡ known_rule (knows names name) name
        → arg_by_id (rules_for (n ∷ names)) name ≡ known_rule (knows (n ∷ names) name) name
    go true e rest = rw e (ap (λ m. Some (option_rule m)) (same_text n name e))
    go false e rest = rw e rest

pub by_short : (names : List Text) (x : ℕ) → arg_by_short (rules_for names) x ≡ None
by_short [] x = refl
by_short (n ∷ names) x = by_short names x

pub by_index : (names : List Text) (i : ℕ) → arg_by_index (rules_for names) i ≡ None
by_index [] i = refl
by_index (n ∷ names) i = by_index names i
