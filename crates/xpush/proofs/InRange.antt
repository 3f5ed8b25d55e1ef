-- Values that options have are in their ranges.
use Rattle.std.proofs.Common.{◌≡◌, ℕ, ◌≤◌, Bool, true, false, ◌&&◌, nat_le, List, [], ◌∷◌, map, filter, Option, Some, None, option_map, option_and_then, if◌then◌else◌, refl, sym, ap, ◌∙◌, subst, arith}
use Rattle.std.proofs.lemmas.Bool.{leb-true}
use Rattle.px_text.specs.Numbers.{value}
use Rattle.px_options.specs.OptionWords.{Rule, Use, all_known, all_of, given, is_numeral, is_of, number_in, uses_in, value_among, value_by, values_in}
use Rattle.px_options.proofs.Alike.{not_some, some_same}
use Rattle.xpush.specs.Ranges.{IsWithin, AreWithin, HaveDefaults}

-- a number that a text gives
number_within : (least most : ℕ) (text : List ℕ) (v : ℕ) → number_in least most text ≡ Some v → (least ≤ v) × (v ≤ most)
number_within least most text v e = on (is_numeral text) (nat_le least (value text)) (nat_le (value text) most) refl refl e
  where
    on : (a b c : Bool) → nat_le least (value text) ≡ b → nat_le (value text) most ≡ c → (if a && b && c then Some (value text) else None) ≡ Some v →
        (least ≤ v) × (v ≤ most)
    on true true true low high e =
        let P : ℕ → Type 0 = λ n. (least ≤ n) × (n ≤ most) in
        subst P (some_same e) (leb-true least (value text) low, leb-true (value text) most high)
    on true true false low high e = absurd (not_some e)
    on true false c low high e = absurd (not_some e)
    on false b c low high e = absurd (not_some e)

given_within : (rule : Rule) (uses : List Use) (v : ℕ) → ((d : ℕ) → rule.otherwise ≡ Some d → IsWithin rule d) → given rule uses ≡ Some v → IsWithin rule v
given_within rule [] v otherwise e = otherwise v e
given_within rule (one ∷ []) v otherwise e = number_within rule.least rule.most one.1 v e
given_within rule (one ∷ again ∷ more) v otherwise e = absurd (not_some e)

value_within : (words : List (List ℕ)) (rule : Rule) (v : ℕ) → ((d : ℕ) → rule.otherwise ≡ Some d → IsWithin rule d) → value_among words rule ≡ Some v → IsWithin rule v
value_within words rule v otherwise e = on (uses_in words) e
  where
    on : (uses : Option (List Use)) → option_and_then (λ us. value_by us rule) uses ≡ Some v → IsWithin rule v
    on (Some uses) e = given_within rule (filter (is_of rule.name) uses) v otherwise e
    on None e = absurd (not_some e)

within_next : (rule : Rule) (rules : List Rule) (values : List ℕ) (one : Option ℕ) (more : Option (List ℕ)) → ((v : ℕ) → one ≡ Some v → IsWithin rule v) →
    ((vs : List ℕ) → more ≡ Some vs → AreWithin rules vs) → option_and_then (λ v. option_map (λ vs. v ∷ vs) more) one ≡ Some values → AreWithin (rule ∷ rules) values
within_next rule rules values (Some v) (Some vs) first rest e =
    let P : List ℕ → Type 0 = λ all. AreWithin (rule ∷ rules) all in subst P (some_same e) (first v refl, rest vs refl)
within_next rule rules values (Some v) None first rest e = absurd (not_some e)
within_next rule rules values None more first rest e = absurd (not_some e)

all_within : (rules : List Rule) (words : List (List ℕ)) (values : List ℕ) → HaveDefaults rules → all_of (map (value_among words) rules) ≡ Some values → AreWithin rules values
all_within [] words values have e = let P : List ℕ → Type 0 = λ vs. AreWithin [] vs in subst P (some_same e) tt
all_within (rule ∷ rules) words values have e =
    within_next rule rules values (value_among words rule) (all_of (map (value_among words) rules)) (λ v. value_within words rule v have.0)
    (λ vs. all_within rules words vs have.1) e

pub values_within : (rules : List Rule) (words : List (List ℕ)) (values : List ℕ) → HaveDefaults rules → values_in rules words ≡ Some values → AreWithin rules values
values_within rules words values have e = on (all_known rules (uses_in words)) e
  where
    on : (known : Bool) → (if known then all_of (map (value_among words) rules) else None) ≡ Some values → AreWithin rules values
    on true e = all_within rules words values have e
    on false e = absurd (not_some e)
