-- The values of the options by the rows that clap keeps, and words that give them.
use Rattle.std.proofs.Common.{◌≡◌, ◌∙◌, ◌∷◌, [], ℕ, Bool, true, false, not, ◌&&◌, ◌||◌, ◌++◌, List, map, Option, Some, None, refl, sym, ap, ap₂, if◌then◌else◌, is_some, option_map, option_and_then, append_assoc}
use Rattle.std.specs.Prelude.{bytes_eq, filter}
use Rattle.std.specs.List.{list_all}
use Rattle.std.proofs.lemmas.List.Elements.{filter-append}
use Rattle.std.proofs.lemmas.Bool.{and_from, and_parts, or_right}
use Rattle.clap.specs.Walk.{Text, Row, first_of}
use Rattle.px_text.specs.Numbers.{value}
use Rattle.px_options.specs.OptionAnswers.{value_of_text}
use Rattle.px_options.specs.OptionWords.{Rule, Use, all_known, all_of, given, is_known, is_numeral, is_of, number_in, uses_in, value_among, value_by, values_in}
use Rattle.px_options.proofs.Alike.{same_text}
use Rattle.px_options.proofs.Rows.{rows_for}
use Rattle.px_options.proofs.Scan.{has_use}
use Rattle.px_options.proofs.Uses.{adds, is_named, is_numbered}

abbrev pub names_of : List Rule → List Text
names_of = map (λ rule. rule.name)

turned_round : (a b : Text) → bytes_eq a b ≡ bytes_eq b a
turned_round a b = go (bytes_eq a b) (bytes_eq b a) refl refl
  where
    go : (x y : Bool) → bytes_eq a b ≡ x → bytes_eq b a ≡ y → bytes_eq a b ≡ bytes_eq b a
    go true y ex ey = ap (λ c. bytes_eq a c) (sym (same_text a b ex)) ∙ ap (λ c. bytes_eq c a) (same_text a b ex)
    go false true ex ey = ap (λ c. bytes_eq c b) (sym (same_text b a ey)) ∙ ap (λ c. bytes_eq b c) (same_text b a ey)
    go false false ex ey = ex ∙ sym ey

known_as : (rules : List Rule) (one : Use) → is_known rules one ≡ is_named (names_of rules) one
known_as [] one = refl
known_as (rule ∷ rules) one = ap₂ (λ a b. a || b) (turned_round one.0 rule.name) (known_as rules one)

all_known_as : (rules : List Rule) (uses : List Use) → list_all (is_known rules) uses ≡ list_all (is_named (names_of rules)) uses
all_known_as rules [] = refl
all_known_as rules (one ∷ uses) = ap₂ (λ a b. a && b) (known_as rules one) (all_known_as rules uses)

-- ---- the value by the rows

has_use-push : (name : Text) (one : Use) (uses : List Use) → bytes_eq one.0 name ≡ true → has_use name (uses ++ one ∷ []) ≡ true
has_use-push name one [] e = rw e refl
has_use-push name one (first ∷ uses) e = rw (has_use-push name one uses e) (or_right (bytes_eq first.0 name) true refl)

has_use-kept : (name : Text) (one : Use) (uses : List Use) → has_use name uses ≡ true → has_use name (uses ++ one ∷ []) ≡ true
has_use-kept name one [] e = absurd (cc)
has_use-kept name one (first ∷ uses) e = go (bytes_eq first.0 name) refl (has_use-kept name one uses)
  where
    go : (b : Bool) → bytes_eq first.0 name ≡ b → (has_use name uses ≡ true → has_use name (uses ++ one ∷ []) ≡ true) → has_use name (first ∷ uses ++ one ∷ []) ≡ true
    go true eb rest = rw eb refl
    go false eb rest = let more : has_use name uses ≡ true = rw eb at e in rw (eb) (rest more)

-- an option that was used is not used again
none_again : (name : Text) (before more : List Use) → has_use name before ≡ true → adds before more ≡ true → filter (is_of name) more ≡ []
none_again name before [] used once = refl
none_again name before (one ∷ more) used once = go (bytes_eq one.0 name) refl (none_again name (before ++ one ∷ []) more (has_use-kept name one before used) parts.1)
  where
    parts : (not (has_use one.0 before) ≡ true) × (adds (before ++ one ∷ []) more ≡ true)
    parts = and_parts (not (has_use one.0 before)) _ once

    go : (b : Bool) → bytes_eq one.0 name ≡ b → filter (is_of name) more ≡ [] → filter (is_of name) (one ∷ more) ≡ []
    go true eb rest =
        let same : has_use one.0 before ≡ true = ap (λ n. has_use n before) (same_text one.0 name eb) ∙ used in
        let bad : not true ≡ true = rw same at parts.0 in
        absurd (cc)
    go false eb rest = rw eb rest

value_in_rows : (rule : Rule) (before more : List Use) → adds before more ≡ true → given rule (filter (is_of rule.name) more) ≡ value_of_text rule (first_of rule.name (rows_for more))
value_in_rows rule before [] once = refl
value_in_rows rule before (one ∷ more) once = go (bytes_eq one.0 rule.name) refl (value_in_rows rule (before ++ one ∷ []) more parts.1)
  where
    parts : (not (has_use one.0 before) ≡ true) × (adds (before ++ one ∷ []) more ≡ true)
    parts = and_parts (not (has_use one.0 before)) _ once

    go : (b : Bool) → bytes_eq one.0 rule.name ≡ b → given rule (filter (is_of rule.name) more) ≡ value_of_text rule (first_of rule.name (rows_for more))
        → given rule (filter (is_of rule.name) (one ∷ more)) ≡ value_of_text rule (first_of rule.name (rows_for (one ∷ more)))
    go true eb rest = rw (eb, none_again rule.name (before ++ one ∷ []) more (has_use-push rule.name one before eb) parts.1) refl
    go false eb rest = rw eb rest

abbrev pub values_by_rows : List Rule → List Row → Option (List ℕ)
values_by_rows rules rows = all_of (map (λ rule. value_of_text rule (first_of rule.name rows)) rules)

each_value : (words : List Text) (rules : List Rule) (more : List Use) → uses_in words ≡ Some more → adds [] more ≡ true
    → map (value_among words) rules ≡ map (λ rule. value_of_text rule (first_of rule.name (rows_for more))) rules
each_value words [] more given once = refl
each_value words (rule ∷ rules) more given once =
    ap₂ (λ one others. one ∷ others) (ap (option_and_then (λ uses. value_by uses rule)) given ∙ value_in_rows rule [] more once) (each_value words rules more given once)

pub values_are : (words : List Text) (rules : List Rule) (more : List Use) → uses_in words ≡ Some more → list_all (is_named (names_of rules)) more ≡ true → adds [] more ≡ true
    → values_in rules words ≡ values_by_rows rules (rows_for more)
values_are words rules more given named once =
    ap (λ uses. if all_known rules uses then all_of (map (value_among words) rules) else None) given
    ∙ ap (λ b. if b then all_of (map (value_among words) rules) else None) (all_known_as rules more ∙ named)
    ∙ ap all_of (each_value words rules more given once)

-- ---- words that give values

numbered_in : (least most : ℕ) (text : Text) → is_some (number_in least most text) ≡ true → is_numeral text ≡ true
numbered_in least most text e = go (is_numeral text) refl
  where
    go : (b : Bool) → is_numeral text ≡ b → is_numeral text ≡ true
    go true eb = eb
    go false eb = let bad : false ≡ true = rw eb at e in absurd (cc)

only_one : (rule : Rule) (front : List Use) (one : Use) (behind : List Use) → is_some (given rule (front ++ one ∷ behind)) ≡ true
    → (front ≡ []) × (is_numbered one ≡ true)
only_one rule [] one [] e = (refl, numbered_in rule.least rule.most one.1 e)
only_one rule [] one (again ∷ behind) e = absurd (cc)
only_one rule (first ∷ []) one behind e = absurd (cc)
only_one rule (first ∷ second ∷ front) one behind e = absurd (cc)

unused : (name : Text) (uses : List Use) → filter (is_of name) uses ≡ [] → has_use name uses ≡ false
unused name [] e = refl
unused name (one ∷ uses) e = go (bytes_eq one.0 name) refl (unused name uses)
  where
    go : (b : Bool) → bytes_eq one.0 name ≡ b → (filter (is_of name) uses ≡ [] → has_use name uses ≡ false) → has_use name (one ∷ uses) ≡ false
    go true eb rest = let bad : one ∷ filter (is_of name) uses ≡ [] = rw eb at e in absurd (cc)
    go false eb rest = let none : filter (is_of name) uses ≡ [] = rw eb at e in rw eb (rest none)

-- an option of a use, which has a value
pub record Valued (whole : List Use) (one : Use) : Type 0 where
  pub rule : Rule
  pub named : bytes_eq one.0 rule.name ≡ true
  pub some : is_some (given rule (filter (is_of rule.name) whole)) ≡ true

first_some : (one : Option ℕ) (more : Option (List ℕ)) → is_some (option_and_then (λ value. option_map (λ values. value ∷ values) more) one) ≡ true
    → (is_some one ≡ true) × (is_some more ≡ true)
first_some None more e = absurd (cc)
first_some (Some value) None e = absurd (cc)
first_some (Some value) (Some values) e = (refl, refl)

valued : (rules : List Rule) (whole : List Use) (one : Use) → is_some (all_of (map (value_by whole) rules)) ≡ true → is_known rules one ≡ true → Valued whole one
valued [] whole one e known = absurd (cc)
valued (rule ∷ rules) whole one e known = go (bytes_eq one.0 rule.name) refl (valued rules whole one values.1)
  where
    values : (is_some (value_by whole rule) ≡ true) × (is_some (all_of (map (value_by whole) rules)) ≡ true)
    values = first_some (value_by whole rule) (all_of (map (value_by whole) rules)) e

    go : (b : Bool) → bytes_eq one.0 rule.name ≡ b → (is_known rules one ≡ true → Valued whole one) → Valued whole one
    go true eb rest = record { rule = rule; named = eb; some = values.0 }
    go false eb rest = let more : is_known rules one ≡ true = rw eb at known in rest more

once_and_numbered : (rules : List Rule) (whole : List Use) → is_some (all_of (map (value_by whole) rules)) ≡ true → (before more : List Use) → before ++ more ≡ whole
    → list_all (is_known rules) more ≡ true → (adds before more ≡ true) × (list_all is_numbered more ≡ true)
once_and_numbered rules whole values before [] parts known = (refl, refl)
once_and_numbered rules whole values before (one ∷ more) parts known =
    let knowns = and_parts (is_known rules one) (list_all (is_known rules) more) known in
    let option = valued rules whole one values knowns.0 in
    let name = option.rule.name in
    let hit : filter (is_of name) (one ∷ more) ≡ one ∷ filter (is_of name) more = rw option.named refl in
    let split : filter (is_of name) whole ≡ filter (is_of name) before ++ one ∷ filter (is_of name) more =
    ap (filter (is_of name)) (sym parts) ∙ filter-append (is_of name) before (one ∷ more) ∙ ap (λ behind. filter (is_of name) before ++ behind) hit in
    let only = only_one option.rule (filter (is_of name) before) one (filter (is_of name) more) (ap (λ uses. is_some (given option.rule uses)) (sym split) ∙ option.some) in
    let fresh : has_use one.0 before ≡ false = ap (λ n. has_use n before) (same_text one.0 name option.named) ∙ unused name before only.0 in
    let rest = once_and_numbered rules whole values (before ++ one ∷ []) more (append_assoc before (one ∷ []) more ∙ parts) knowns.1 in
    (and_from _ _ (ap not fresh) rest.0, and_from _ _ only.1 rest.1)

-- what words give that have values
pub record Gives (rules : List Rule) (words : List Text) : Type 0 where
  pub uses : List Use
  pub given : uses_in words ≡ Some uses
  pub named : list_all (is_named (names_of rules)) uses ≡ true
  pub numbered : list_all is_numbered uses ≡ true
  pub once : adds [] uses ≡ true

values_of : (words : List Text) (rules : List Rule) (uses : List Use) → uses_in words ≡ Some uses → map (value_among words) rules ≡ map (value_by uses) rules
values_of words [] uses e = refl
values_of words (rule ∷ rules) uses e = ap₂ (λ one others. one ∷ others) (ap (option_and_then (λ now. value_by now rule)) e) (values_of words rules uses e)

pub gives : (rules : List Rule) (words : List Text) → is_some (values_in rules words) ≡ true → Gives rules words
gives rules words e = go (uses_in words) refl
  where
    go : (found : Option (List Use)) → uses_in words ≡ found → Gives rules words
    go None eu = let bad : is_some (values_in rules words) ≡ false = rw eu refl in absurd (cc)
    go (Some uses) eu = known (list_all (is_known rules) uses) refl
      where
        now : is_some (if list_all (is_known rules) uses then all_of (map (value_among words) rules) else None) ≡ true
        now = ap (λ found. is_some (if all_known rules found then all_of (map (value_among words) rules) else None)) (sym eu) ∙ e

        known : (b : Bool) → list_all (is_known rules) uses ≡ b → Gives rules words
        known true ek =
            let values : is_some (all_of (map (value_by uses) rules)) ≡ true = ap (λ vs. is_some (all_of vs)) (sym (values_of words rules uses eu)) ∙ (rw ek at now) in
            let right = once_and_numbered rules uses values [] uses refl ek in
            record { uses = uses; given = eu; named = sym (all_known_as rules uses) ∙ ek; numbered = right.1; once = right.0 }
        known false ek = let bad : false ≡ true = rw ek at now in absurd (cc)
