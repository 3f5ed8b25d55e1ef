-- How many states, labels and classes there are.
use Rattle.std.proofs.Common.{◌≡◌, ℕ, suc, ◌+◌, ◌*◌, ◌<◌, ◌≤◌, Bool, true, false, ◌&&◌, cond, List, [], ◌∷◌, ◌++◌, length, refl, ◌∙◌, ap, arith, Option, Some, None}
use Rattle.std.specs.Prelude.{ℤ}
use Rattle.std.specs.Str.{bytes_eq}
use Rattle.std.specs.List.{list_any}
use Rattle.std.specs.Ordering.{int_cmp}
use Rattle.std.specs.declared.cmp.Ordering.{Ordering}
use Rattle.std.specs.declared.cmp.Ordering.TheVariants.{Less, Equal, Greater}
use Rattle.std.proofs.lemmas.Bool.{and_parts}
use Rattle.std.proofs.lemmas.List.{length-append}
use Rattle.std.proofs.lemmas.List.Sums.{sum_by-cons}
use Rattle.px_xpath.specs.declared.filter.Axis.{Axis}
use Rattle.px_xpath.specs.declared.filter.Test.{Test}
use Rattle.px_xpath.specs.declared.filter.Relation.{Relation}
use Rattle.px_xpath.specs.declared.filter.Value.{Value}
use Rattle.px_xpath.specs.Filters.{Way, Arrived, StepThen, Condition, Selects, Compares, EachOf, SomeOf, Fails, Conditions, NoConditions, CondThen}
use Rattle.px_xpath.specs.Histories.{Subscription, size, way_size, condition_size, conditions_size, joint, count_of, parts_behind, live_size}
use Rattle.px_xpath.specs.Proper.{has_steps, has_two, may_compare, steps_proper, condition_proper, all_proper}
use Rattle.px_afa.specs.declared.state.State.{State}
use Rattle.px_afa.specs.declared.state.State.TheVariants as state
use Rattle.px_afa.specs.Contents.{Kind, ElementKind, AttributeKind, TextKind}
use Rattle.px_afa.specs.Building.{number_of, share, made_or_new, MadeParts, one_of, body_made, end_made, joined, path_made, way_made, condition_made, conditions_made, filters_made}
use Rattle.px_afa.specs.Labels.{same_kind, contains_kind, with_name, names_of, state_name, place_of, label_number}
use Rattle.px_afa.specs.Classes.{with_literal, literals_of, state_literal, class_of_text, text_class, with_constant, with_if_some, constants_of, state_constant, cut_class, class_of_number, number_class, cut_of}
use Rattle.px_afa.specs.Sound.{AreProper}

share-few : (s : State) (states : List State) → length (share s states).states ≤ length states + 1
share-few s states = go (number_of s states)
  where
    go : (o : Option ℕ) → length (made_or_new o s states).states ≤ length states + 1
    go None = omega arith
    go (Some n) = omega arith

-- one or more parts
one_of-few : (n : ℕ) (parts : List ℕ) (states : List State) → length (one_of (n ∷ parts) states).states ≤ length states + joint (suc (length parts))
one_of-few n [] states = omega arith
one_of-few n (m ∷ parts) states = share-few (state.And (n ∷ m ∷ parts)) states

body-few : (parts : List ℕ) (states : List State) → length (body_made parts states).states ≤ length states + joint (length parts)
body-few [] states = omega arith
body-few (n ∷ parts) states = one_of-few n parts states

-- no state and no part, or the value at the end
abbrev end_count : Option (Relation × Value) → ℕ
end_count None = 0
end_count (Some e) = 1

-- so many states more at most, and so many parts
record Few (states : List State) (made : MadeParts) (more parts : ℕ) : Type 0 where
  pub few : length made.states ≤ length states + more
  pub parts_are : length made.parts ≡ parts

end-few : (end : Option (Relation × Value)) (states : List State) → Few states (end_made end states) (end_count end) (end_count end)
end-few None states = record { few = omega arith; parts_are = refl }
end-few (Some e) states = record { few = share-few (state.Value e.0 e.1) states; parts_are = refl }

path-few : (axis : Axis) (asked : Test) (a b more : ℕ) (states : List State) (first : MadeParts) (second : MadeParts) →
    Few states first a more → (k : ℕ) → Few first.states second b k →
    Few states (path_made axis asked (body_made (joined first.parts second).parts (joined first.parts second).states)) (a + b + joint (more + k) + 1) 1
path-few axis asked a b more states first second f k g =
    let body = body-few (first.parts ++ second.parts) second.states in
    let made = body_made (first.parts ++ second.parts) second.states in
    let last = share-few (state.Path axis asked made.body) made.states in
    let long : length (first.parts ++ second.parts) ≡ more + k = length-append first.parts second.parts ∙ (ap (λ l. l + length second.parts) f.parts_are ∙ ap (λ l. more + l) g.parts_are) in
    let joins : joint (length (first.parts ++ second.parts)) ≡ joint (more + k) = ap joint long in
    let one = f.few in let two = g.few in
    record { few = omega arith; parts_are = refl }

one-part : (way : Way) (end : Option (Relation × Value)) (states : List State) → has_steps way ≡ true →
    length (one_of (way_made way end states).parts (way_made way end states).states).states ≤ length (way_made way end states).states
one-part Arrived end states h = cc
one-part (StepThen axis asked conds onward) end states h = omega arith

mutual
  way-few : (way : Way) (end : Option (Relation × Value)) (states : List State) → steps_proper way ≡ true →
      Few states (way_made way end states) (way_size way (end_count end)) (parts_behind way (end_count end))
  way-few Arrived end states h = end-few end states
  way-few (StepThen axis asked conds onward) end states h =
      let both = and_parts (all_proper conds) (steps_proper onward) h in
      let made = conditions_made conds states in
      path-few axis asked (conditions_size conds) (way_size onward (end_count end)) (count_of conds) states made (way_made onward end made.states)
      (conds-few conds states both.0) (parts_behind onward (end_count end)) (way-few onward end made.states both.1)

  condition-few : (condition : Condition) (states : List State) → condition_proper condition ≡ true → length (condition_made condition states).states ≤ length states + condition_size condition
  condition-few (Selects way) states h =
      let both = and_parts (has_steps way) (steps_proper way) h in
      let f = (way-few way None states both.1).few in let one = one-part way None states both.0 in omega arith
  condition-few (Compares way r wanted) states h =
      let all = and_parts (has_steps way && steps_proper way) (may_compare r wanted) h in
      let both = and_parts (has_steps way) (steps_proper way) all.0 in
      let f = (way-few way (Some (r, wanted)) states both.1).few in let one = one-part way (Some (r, wanted)) states both.0 in omega arith
  condition-few (EachOf conds) states h =
      let both = and_parts (has_two conds) (all_proper conds) h in
      let f = (conds-few conds states both.1).few in
      let one = share-few (state.And (conditions_made conds states).parts) (conditions_made conds states).states in omega arith
  condition-few (SomeOf conds) states h =
      let both = and_parts (has_two conds) (all_proper conds) h in
      let f = (conds-few conds states both.1).few in
      let one = share-few (state.Or (conditions_made conds states).parts) (conditions_made conds states).states in omega arith
  condition-few (Fails condition) states h =
      let f = condition-few condition states h in
      let one = share-few (state.Not (condition_made condition states).number) (condition_made condition states).states in omega arith

  conds-few : (conds : Conditions) (states : List State) → all_proper conds ≡ true → Few states (conditions_made conds states) (conditions_size conds) (count_of conds)
  conds-few NoConditions states h = record { few = omega arith; parts_are = refl }
  conds-few (CondThen condition rest) states h =
      let both = and_parts (condition_proper condition) (all_proper rest) h in
      let one = condition-few condition states both.0 in
      let more = conds-few rest (condition_made condition states).states both.1 in
      let f = more.few in let p = more.parts_are in
      record { few = omega arith; parts_are = omega arith }

pub filters-few : (live : List Subscription) (states : List State) → AreProper live → length (filters_made live states).states ≤ length states + live_size live
filters-few [] states h = omega arith
filters-few (s ∷ live) states h =
    let both = and_parts (has_steps s.filter) (steps_proper s.filter) h.0 in
    let f = (way-few s.filter None states both.1).few in
    let one = one-part s.filter None states both.0 in
    let way = way_made s.filter None states in
    let more = filters-few live (one_of way.parts way.states).states h.1 in
    let all : live_size (s ∷ live) ≡ size s.filter + live_size live = sum_by-cons (λ t. size t.filter) s live in
    omega arith

with_name-few : (o : Option Kind) (names : List Kind) → length (with_name o names) ≤ length names + 1
with_name-few None names = omega arith
with_name-few (Some kind) names = go (contains_kind names kind)
  where
    go : (b : Bool) → length (cond b names (names ++ kind ∷ [])) ≤ length names + 1
    go true = omega arith
    go false = let both = length-append names (kind ∷ []) in omega arith

pub names-few : (states : List State) → length (names_of states) ≤ length states
names-few [] = omega arith
names-few (s ∷ before) = let more = names-few before in let one = with_name-few (state_name s) (names_of before) in omega arith

with_literal-few : (o : Option (List ℕ)) (literals : List (List ℕ)) → length (with_literal o literals) ≤ length literals + 1
with_literal-few None literals = omega arith
with_literal-few (Some text) literals = go (list_any (λ literal. bytes_eq literal text) literals)
  where
    go : (b : Bool) → length (cond b literals (literals ++ text ∷ [])) ≤ length literals + 1
    go true = omega arith
    go false = let both = length-append literals (text ∷ []) in omega arith

pub literals-few : (states : List State) → length (literals_of states) ≤ length states
literals-few [] = omega arith
literals-few (s ∷ before) = let more = literals-few before in let one = with_literal-few (state_literal s) (literals_of before) in omega arith

with_constant-few : (x : ℤ) (constants : List ℤ) → length (with_constant x constants) ≤ length constants + 1
with_constant-few x [] = omega arith
with_constant-few x (y ∷ ys) = go (int_cmp x y) (with_constant-few x ys)
  where
    go : (o : Ordering) → length (with_constant x ys) ≤ length ys + 1 →
        length {A = ℤ} (elim o [ Less ↦ x ∷ y ∷ ys | Equal ↦ y ∷ ys | Greater ↦ y ∷ with_constant x ys ]) ≤ length (y ∷ ys) + 1
    go Less ih = omega arith
    go Equal ih = omega arith
    go Greater ih = omega arith

pub constants-few : (states : List State) → length (constants_of states) ≤ length states
constants-few [] = omega arith
constants-few (s ∷ before) = go (state_constant s) (constants-few before)
  where
    go : (o : Option ℤ) → length (constants_of before) ≤ length before → length (with_if_some o (constants_of before)) ≤ suc (length before)
    go None more = omega arith
    go (Some c) more = let one = with_constant-few c (constants_of before) in omega arith

place-few : (other i : ℕ) (names : List Kind) (kind : Kind) → other < i → place_of other i names kind < i + length names
place-few other i [] kind h = omega arith
place-few other i (name ∷ names) kind h = go (same_kind name kind) (place-few other (suc i) names kind (omega arith))
  where
    go : (b : Bool) → place_of other (suc i) names kind < suc i + length names → cond b i (place_of other (suc i) names kind) < i + suc (length names)
    go true ih = omega arith
    go false ih = omega arith

pub label-few : (names : List Kind) (kind : Kind) → label_number names kind < 3 + length names
label-few names (ElementKind name) = place-few 1 3 names (ElementKind name) (omega arith)
label-few names (AttributeKind name) = place-few 2 3 names (AttributeKind name) (omega arith)
label-few names TextKind = omega arith

pub class-few : (i : ℕ) (literals : List (List ℕ)) (text : List ℕ) → 0 < i → class_of_text i literals text < i + length literals
class-few i [] text h = omega arith
class-few i (literal ∷ literals) text h = go (bytes_eq literal text) (class-few (suc i) literals text (omega arith))
  where
    go : (b : Bool) → class_of_text (suc i) literals text < suc i + length literals → cond b i (class_of_text (suc i) literals text) < i + suc (length literals)
    go true ih = omega arith
    go false ih = omega arith

pub text_class-few : (states : List State) (text : List ℕ) → text_class states text ≤ length states
text_class-few states text = let one = class-few 1 (literals_of states) text (omega arith) in let all = literals-few states in omega arith

pub cut-few : (passed : ℕ) (constants : List ℤ) (cut : ℤ → Ordering) → cut_class passed constants cut ≤ passed + 2 * length constants + 1
cut-few passed [] cut = omega arith
cut-few passed (c ∷ constants) cut = go (cut c) (cut-few (suc (suc passed)) constants cut)
  where
    go : (o : Ordering) → cut_class (suc (suc passed)) constants cut ≤ suc (suc passed) + 2 * length constants + 1 →
        elim o [ Less ↦ suc passed | Equal ↦ suc (suc passed) | Greater ↦ cut_class (suc (suc passed)) constants cut ] ≤ passed + 2 * suc (length constants) + 1
    go Less ih = omega arith
    go Equal ih = omega arith
    go Greater ih = omega arith

pub number_class-few : (states : List State) (text : List ℕ) → number_class states text ≤ 2 * length states + 1
number_class-few states text = go (cut_of text)
  where
    go : (o : Option (ℤ → Ordering)) → class_of_number (constants_of states) o ≤ 2 * length states + 1
    go None = omega arith
    go (Some cut) = let one = cut-few 0 (constants_of states) cut in let all = constants-few states in omega arith
