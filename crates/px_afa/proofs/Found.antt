-- What is true of a state that is found at its number.
use Rattle.std.proofs.Common.{◌≡◌, ℕ, suc, ◌<◌, ◌≤◌, Bool, true, false, ◌&&◌, ◌||◌, cond, List, [], ◌∷◌, length, refl, sym, ◌∙◌, ap, arith, nat_eq, Some}
use Rattle.std.proofs.lemmas.Bool.{eqb-true}
use Rattle.px_xpath.specs.declared.filter.Axis.{Axis}
use Rattle.px_xpath.specs.declared.filter.Test.{Test}
use Rattle.px_xpath.specs.declared.filter.Relation.{Relation}
use Rattle.px_xpath.specs.declared.filter.Value.{Value}
use Rattle.px_afa.specs.declared.state.Body.{Body}
use Rattle.px_afa.specs.declared.state.Body.TheVariants as bodies
use Rattle.px_afa.specs.declared.state.State.{State}
use Rattle.px_afa.specs.declared.state.State.TheVariants as state
use Rattle.px_xpath.specs.Meaning.{compares}
use Rattle.px_afa.specs.Contents.{Content, Empty, Leaf, Element, leaf_kind, characters}
use Rattle.px_afa.specs.Truth.{state_at, true_at, state_holds, body_holds, some_child, meets}
use Rattle.px_afa.specs.Orders.{IsOrdered, IsBodyBelow}
use Rattle.px_afa.proofs.Needed.{true_at-older}

pub some_child-same : (axis : Axis) (asked : Test) (p q : List ℕ → Content → Bool) → ((v : List ℕ) (c : Content) → p v c ≡ q v c) → (c : Content) →
    some_child axis asked p c ≡ some_child axis asked q c
some_child-same axis asked p q e Empty = refl
some_child-same axis asked p q e (Leaf a v rest) =
    ap (λ b. (meets asked (leaf_kind a) && b) || some_child axis asked p rest) (e v Empty)
    ∙ ap (λ b. (meets asked (leaf_kind a) && q v Empty) || b) (some_child-same axis asked p q e rest)
some_child-same axis asked p q e (Element n inside rest) =
    rw (e (characters inside) inside, some_child-same axis asked p q e inside, some_child-same axis asked p q e rest) refl

pub state_at-below : (states : List State) (n : ℕ) (s : State) → state_at states n ≡ Some s → n < length states
state_at-below [] n s e = cc
state_at-below (t ∷ before) n s e = go (nat_eq n (length before)) refl e (state_at-below before n s)
  where
    go : (b : Bool) → nat_eq n (length before) ≡ b → cond b (Some t) (state_at before n) ≡ Some s → (state_at before n ≡ Some s → n < length before) → n < suc (length before)
    go true h e' ih = let same : n ≡ length before = eqb-true n (length before) h in omega arith
    go false h e' ih = let less = ih e' in omega arith

body-older : (s : State) (before : List State) (body : Body) → IsBodyBelow body (length before) → (v : List ℕ) (c : Content) →
    body_holds (true_at before) body v c ≡ body_holds (true_at (s ∷ before)) body v c
body-older s before bodies.Always h v c = refl
body-older s before (bodies.State m) h v c = sym (true_at-older s before m v c h)

body_below-more : (body : Body) (n m : ℕ) → n ≤ m → IsBodyBelow body n → IsBodyBelow body m
body_below-more bodies.Always n m le h = tt
body_below-more (bodies.State p) n m le h = omega arith

pub body_below-at : (states : List State) → IsOrdered states → (n : ℕ) (axis : Axis) (asked : Test) (body : Body) → state_at states n ≡ Some (state.Path axis asked body) → IsBodyBelow body (length states)
body_below-at [] ordered n axis asked body e = cc
body_below-at (t ∷ before) ordered n axis asked body e = go (nat_eq n (length before)) refl e (body_below-at before ordered.1 n axis asked body)
  where
    go : (b : Bool) → nat_eq n (length before) ≡ b → cond b (Some t) (state_at before n) ≡ Some (state.Path axis asked body) →
        (state_at before n ≡ Some (state.Path axis asked body) → IsBodyBelow body (length before)) → IsBodyBelow body (suc (length before))
    go true h e' ih =
        let is : t ≡ state.Path axis asked body = cc in
        let here : IsBodyBelow body (length before) = rw is at ordered.0 in
        body_below-more body (length before) (suc (length before)) (omega arith) here
    go false h e' ih = body_below-more body (length before) (suc (length before)) (omega arith) (ih e')

pub true_at-path : (states : List State) → IsOrdered states → (n : ℕ) (axis : Axis) (asked : Test) (body : Body) → state_at states n ≡ Some (state.Path axis asked body) →
    (v : List ℕ) (c : Content) → true_at states n v c ≡ some_child axis asked (body_holds (true_at states) body) c
true_at-path [] ordered n axis asked body e v c = cc
true_at-path (t ∷ before) ordered n axis asked body e v c = go (nat_eq n (length before)) refl e (true_at-path before ordered.1 n axis asked body)
  where
    go : (b : Bool) → nat_eq n (length before) ≡ b → cond b (Some t) (state_at before n) ≡ Some (state.Path axis asked body) →
        (state_at before n ≡ Some (state.Path axis asked body) → (v : List ℕ) (c : Content) → true_at before n v c ≡ some_child axis asked (body_holds (true_at before) body) c) →
        cond b (state_holds t (true_at before) v c) (true_at before n v c) ≡ some_child axis asked (body_holds (true_at (t ∷ before)) body) c
    go true h e' ih =
        let is : t ≡ state.Path axis asked body = cc in
        let here : IsBodyBelow body (length before) = rw is at ordered.0 in
        ap (λ s. state_holds s (true_at before) v c) is
        ∙ some_child-same axis asked (body_holds (true_at before) body) (body_holds (true_at (t ∷ before)) body) (body-older t before body here) c
    go false h e' ih =
        ih e' v c
        ∙ some_child-same axis asked (body_holds (true_at before) body) (body_holds (true_at (t ∷ before)) body) (body-older t before body (body_below-at before ordered.1 n axis asked body e')) c

pub true_at-value : (states : List State) (n : ℕ) (r : Relation) (x : Value) → state_at states n ≡ Some (state.Value r x) →
    (v : List ℕ) (c : Content) → true_at states n v c ≡ compares r x v
true_at-value [] n r x e v c = cc
true_at-value (t ∷ before) n r x e v c = go (nat_eq n (length before)) e (true_at-value before n r x)
  where
    go : (b : Bool) → cond b (Some t) (state_at before n) ≡ Some (state.Value r x) →
        (state_at before n ≡ Some (state.Value r x) → (v : List ℕ) (c : Content) → true_at before n v c ≡ compares r x v) →
        cond b (state_holds t (true_at before) v c) (true_at before n v c) ≡ compares r x v
    go true e' ih = let is : t ≡ state.Value r x = cc in ap (λ s. state_holds s (true_at before) v c) is
    go false e' ih = ih e' v c
