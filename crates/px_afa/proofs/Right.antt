-- The states of a filter are true exactly where it holds.
use Rattle.std.proofs.Common.{◌≡◌, ℕ, ◌<◌, Bool, true, false, not, ◌&&◌, ◌||◌, List, [], ◌∷◌, ◌++◌, length, refl, sym, ◌∙◌, ap, arith, nat_lt, Option, Some, None}
use Rattle.std.specs.List.{list_any, list_all}
use Rattle.std.proofs.lemmas.List.Folds.{list_all-append}
use Rattle.std.proofs.lemmas.Bool.{lt-ltb, ltb-true, and_from, and_parts}
use Rattle.px_text.specs.Nodes.{Place, string_value}
use Rattle.px_xpath.specs.declared.filter.Axis.{Axis}
use Rattle.px_xpath.specs.declared.filter.Test.{Test}
use Rattle.px_xpath.specs.declared.filter.Relation.{Relation}
use Rattle.px_xpath.specs.declared.filter.Value.{Value}
use Rattle.px_xpath.specs.Filters.{Way, Arrived, StepThen, Condition, Selects, Compares, EachOf, SomeOf, Fails, Conditions, NoConditions, CondThen}
use Rattle.px_xpath.specs.Meaning.{candidates, compares, way_holds, condition_holds, all_hold, some_holds}
use Rattle.px_xpath.specs.Meaning as filter
use Rattle.px_afa.specs.declared.state.Body.{Body}
use Rattle.px_afa.specs.declared.state.State.{State}
use Rattle.px_afa.specs.declared.state.State.TheVariants as state
use Rattle.px_afa.specs.Contents.{content_of}
use Rattle.px_afa.specs.Truth.{true_at, state_holds, body_holds}
use Rattle.px_afa.specs.Orders.{IsOrdered, IsStateBelow, IsBodyBelow}
use Rattle.px_afa.specs.Building.{share, Made, MadeParts, MadeBody, one_of, body_made, end_made, joined, alone, path_made, way_made, condition_made, conditions_made}
use Rattle.px_afa.proofs.Candidates.{candidates-are}
use Rattle.px_afa.proofs.Growing.{Grows, grows-same, grows-on, shared, parts_below-more}
use Rattle.std.proofs.Math.Bool.{and-true}

-- the truth of a state at a place
abbrev pub true_there : List State → ℕ → Place → Bool
true_there states n x = true_at states n (string_value x) (content_of x)

abbrev pub body_there : List State → Body → Place → Bool
body_there states body x = body_holds (true_at states) body (string_value x) (content_of x)

-- parts whose truth, all together, is a given one
pub record RightParts (states : List State) (made : MadeParts) (holds : Place → Bool) : Type 0 where
  pub grows : Grows states made.states
  pub below : list_all (λ p. nat_lt p (length made.states)) made.parts ≡ true
  pub means : (x : Place) → list_all (λ m. true_there made.states m x) made.parts ≡ holds x

pub record RightConditions (states : List State) (made : MadeParts) (each one : Place → Bool) : Type 0 where
  pub grows : Grows states made.states
  pub below : list_all (λ p. nat_lt p (length made.states)) made.parts ≡ true
  pub means_each : (x : Place) → list_all (λ m. true_there made.states m x) made.parts ≡ each x
  pub means_one : (x : Place) → list_any (λ m. true_there made.states m x) made.parts ≡ one x

pub record Right (states : List State) (made : Made) (holds : Place → Bool) : Type 0 where
  pub grows : Grows states made.states
  pub within : made.number < length made.states
  pub means : (x : Place) → true_there made.states made.number x ≡ holds x

pub record RightBody (states : List State) (made : MadeBody) (holds : Place → Bool) : Type 0 where
  pub grows : Grows states made.states
  pub below : IsBodyBelow made.body (length made.states)
  pub means : (x : Place) → body_there made.states made.body x ≡ holds x

all_kept : (a b : List State) → Grows a b → (parts : List ℕ) → list_all (λ p. nat_lt p (length a)) parts ≡ true → (x : Place) →
    list_all (λ m. true_there b m x) parts ≡ list_all (λ m. true_there a m x) parts
all_kept a b g [] h x = refl
all_kept a b g (p ∷ parts) h x =
    let both = and_parts (nat_lt p (length a)) (list_all (λ q. nat_lt q (length a)) parts) h in
    ap (λ y. y && list_all (λ m. true_there b m x) parts) (g.keeps p (ltb-true p (length a) both.0) (string_value x) (content_of x))
    ∙ ap (λ y. true_there a p x && y) (all_kept a b g parts both.1 x)

below_append : (n : ℕ) (ps qs : List ℕ) → list_all (λ p. nat_lt p n) ps ≡ true → list_all (λ p. nat_lt p n) qs ≡ true → list_all (λ p. nat_lt p n) (ps ++ qs) ≡ true
below_append n ps qs h k = list_all-append (λ p. nat_lt p n) ps qs ∙ and_from (list_all (λ p. nat_lt p n) ps) (list_all (λ p. nat_lt p n) qs) h k

-- a state of its own for a fact
state-right : (first states : List State) (s : State) (holds : Place → Bool) → Grows first states → IsOrdered states → IsStateBelow s (length states) →
    ((x : Place) → state_holds s (true_at states) (string_value x) (content_of x) ≡ holds x) → Right first (share s states) holds
state-right first states s holds g ordered below means =
    let made = shared s states ordered below in
    record { grows = grows-on g made.grows; within = made.within; means = λ x. made.means (string_value x) (content_of x) ∙ means x }

pub one_of-right : (first states : List State) (parts : List ℕ) (holds : Place → Bool) → IsOrdered states → RightParts first (record { states = states; parts = parts }) holds →
    Right first (one_of parts states) holds
one_of-right first states (n ∷ []) holds ordered r = record {
  grows = r.grows;
  within = ltb-true n (length states) ((and_parts (nat_lt n (length states)) true r.below).0);
  means = λ x. sym (and-true (true_there states n x)) ∙ r.means x;
}
one_of-right first states [] holds ordered r = state-right first states (state.And []) holds r.grows ordered refl r.means
one_of-right first states (n ∷ m ∷ parts) holds ordered r = state-right first states (state.And (n ∷ m ∷ parts)) holds r.grows ordered r.below r.means

pub body-right : (first states : List State) (parts : List ℕ) (holds : Place → Bool) → IsOrdered states → RightParts first (record { states = states; parts = parts }) holds →
    RightBody first (body_made parts states) holds
body-right first states [] holds ordered r = record { grows = r.grows; below = tt; means = r.means }
body-right first states (n ∷ parts) holds ordered r =
    let one = one_of-right first states (n ∷ parts) holds ordered r in
    record { grows = one.grows; below = one.within; means = one.means }

any-same : (f g : Place → Bool) → ((y : Place) → f y ≡ g y) → (ys : List Place) → list_any f ys ≡ list_any g ys
any-same f g h [] = refl
any-same f g h (y ∷ ys) = ap (λ b. b || list_any f ys) (h y) ∙ ap (λ b. g y || b) (any-same f g h ys)

-- one state as a list of parts
alone-right : (first : List State) (made : Made) (holds : Place → Bool) → Right first made holds → RightParts first (alone made) holds
alone-right first made holds r = record {
  grows = r.grows;
  below = and_from (nat_lt made.number (length made.states)) true (lt-ltb made.number (length made.states) r.within) refl;
  means = λ x. and-true (true_there made.states made.number x) ∙ r.means x;
}

path-right : (first states : List State) (axis : Axis) (asked : Test) (body : Body) (holds : Place → Bool) → IsOrdered states → RightBody first (record { states = states; body = body }) holds →
    RightParts first (path_made axis asked (record { states = states; body = body })) (λ x. list_any (λ y. filter.meets asked y && holds y) (candidates axis x))
path-right first states axis asked body holds ordered r =
    alone-right first (share (state.Path axis asked body) states) (λ x. list_any (λ y. filter.meets asked y && holds y) (candidates axis x))
    (state-right first states (state.Path axis asked body) _ r.grows ordered r.below
    (λ x. candidates-are axis asked (body_holds (true_at states) body) x
    ∙ any-same _ _ (λ y. ap (λ b. filter.meets asked y && b) (r.means y)) (candidates axis x)))

pub joined-right : (first : List State) (a b : MadeParts) (f g : Place → Bool) → Grows first a.states → list_all (λ p. nat_lt p (length a.states)) a.parts ≡ true →
    ((x : Place) → list_all (λ m. true_there a.states m x) a.parts ≡ f x) → RightParts a.states b g →
    RightParts first (joined a.parts b) (λ x. f x && g x)
joined-right first a b f g grows below means r = record {
  grows = grows-on grows r.grows;
  below = below_append (length b.states) a.parts b.parts (parts_below-more a.parts (length a.states) (length b.states) r.grows.longer below) r.below;
  means = λ x. list_all-append (λ m. true_there b.states m x) a.parts b.parts
      ∙ (ap (λ y. y && list_all (λ m. true_there b.states m x) b.parts) (all_kept a.states b.states r.grows a.parts below x ∙ means x)
      ∙ ap (λ y. f x && y) (r.means x));
}

-- what holds at the end of a path, a place or a comparison of its string-value
abbrev pub end_holds : Option (Relation × Value) → Place → Bool
end_holds None x = true
end_holds (Some e) x = compares e.0 e.1 (string_value x)

end-right : (end : Option (Relation × Value)) (states : List State) → IsOrdered states → RightParts states (end_made end states) (end_holds end)
end-right None states ordered = record { grows = grows-same states; below = refl; means = λ x. refl }
end-right (Some e) states ordered =
    alone-right states (share (state.Value e.0 e.1) states) (end_holds (Some e))
    (state-right states states (state.Value e.0 e.1) (end_holds (Some e)) (grows-same states) ordered tt (λ x. refl))

more-right : (first : List State) (one : Made) (more : MadeParts) (f each some : Place → Bool) → Right first one f → RightConditions one.states more each some →
    RightConditions first (joined (one.number ∷ []) more) (λ x. f x && each x) (λ x. f x || some x)
more-right first one more f each some r rs = record {
  grows = grows-on r.grows rs.grows;
  below = and_from (nat_lt one.number (length more.states)) (list_all (λ p. nat_lt p (length more.states)) more.parts)
      (let l : one.number < length one.states = r.within in let le = rs.grows.longer in lt-ltb one.number (length more.states) (omega arith)) rs.below;
  means_each = λ x. ap (λ y. y && list_all (λ m. true_there more.states m x) more.parts) (rs.grows.keeps one.number r.within (string_value x) (content_of x) ∙ r.means x)
      ∙ ap (λ y. f x && y) (rs.means_each x);
  means_one = λ x. ap (λ y. y || list_any (λ m. true_there more.states m x) more.parts) (rs.grows.keeps one.number r.within (string_value x) (content_of x) ∙ r.means x)
      ∙ ap (λ y. f x || y) (rs.means_one x);
}

and_assoc : (a b c : Bool) → (a && (b && c)) ≡ ((a && b) && c)
and_assoc = elim [ true ↦ λ b c. refl | false ↦ λ b c. refl ]

same-right : (first : List State) (made : MadeParts) (f g : Place → Bool) → ((x : Place) → f x ≡ g x) → RightParts first made f → RightParts first made g
same-right first made f g e r = record { grows = r.grows; below = r.below; means = λ x. r.means x ∙ e x }

mutual
  pub way-right : (way : Way) (end : Option (Relation × Value)) (states : List State) → IsOrdered states →
      RightParts states (way_made way end states) (way_holds way (end_holds end))
  way-right Arrived end states ordered = end-right end states ordered
  way-right (StepThen axis asked conditions onward) end states ordered =
      let a = conditions-right conditions states ordered in
      let made = conditions_made conditions states in
      let b = way-right onward end made.states (a.grows.ordered ordered) in
      let both = joined-right states made (way_made onward end made.states) (all_hold conditions) (way_holds onward (end_holds end)) a.grows a.below a.means_each b in
      let body = body-right states (way_made onward end made.states).states _ _ (both.grows.ordered ordered) both in
      same-right states _ _ _ (λ x. any-same _ _ (λ y. and_assoc (filter.meets asked y) (all_hold conditions y) (way_holds onward (end_holds end) y)) (candidates axis x))
      (path-right states _ axis asked _ _ (body.grows.ordered ordered) body)

  pub condition-right : (condition : Condition) (states : List State) → IsOrdered states → Right states (condition_made condition states) (condition_holds condition)
  condition-right (Selects way) states ordered =
      let r = way-right way None states ordered in one_of-right states _ _ _ (r.grows.ordered ordered) r
  condition-right (Compares way r wanted) states ordered =
      let x = way-right way (Some (r, wanted)) states ordered in one_of-right states _ _ _ (x.grows.ordered ordered) x
  condition-right (EachOf conditions) states ordered =
      let r = conditions-right conditions states ordered in
      state-right states _ (state.And (conditions_made conditions states).parts) _ r.grows (r.grows.ordered ordered) r.below r.means_each
  condition-right (SomeOf conditions) states ordered =
      let r = conditions-right conditions states ordered in
      state-right states _ (state.Or (conditions_made conditions states).parts) _ r.grows (r.grows.ordered ordered) r.below r.means_one
  condition-right (Fails condition) states ordered =
      let r = condition-right condition states ordered in
      state-right states _ (state.Not (condition_made condition states).number) _ r.grows (r.grows.ordered ordered) r.within (λ x. ap not (r.means x))

  pub conditions-right : (conditions : Conditions) (states : List State) → IsOrdered states →
      RightConditions states (conditions_made conditions states) (all_hold conditions) (some_holds conditions)
  conditions-right NoConditions states ordered = record { grows = grows-same states; below = refl; means_each = λ x. refl; means_one = λ x. refl }
  conditions-right (CondThen condition rest) states ordered =
      let r = condition-right condition states ordered in
      let made = condition_made condition states in
      let rs = conditions-right rest made.states (r.grows.ordered ordered) in
      more-right states made (conditions_made rest made.states) (condition_holds condition) (all_hold rest) (some_holds rest) r rs
