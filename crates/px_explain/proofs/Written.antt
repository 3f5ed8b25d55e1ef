-- What is written, one piece behind another.
use Rattle.std.proofs.Common.{◌≡◌, ℕ, suc, ◌+◌, ◌-◌, arith, Bool, true, List, [], ◌∷◌, ◌++◌, append_assoc, append-nil, length, Result, Ok, Err, refl, ap, ◌∙◌, sym, subst, inl, inr}
use Rattle.std.specs.Prelude.{◌&&◌}
use Rattle.std.specs.List.{list_any, flat_map}
use Rattle.px_text.specs.Nodes.{Place}
use Rattle.px_xpath.specs.declared.filter.Axis.{Axis}
use Rattle.px_xpath.specs.declared.filter.Test.{Test}
use Rattle.px_xpath.specs.Filters.{Way, StepThen, Conditions}
use Rattle.px_xpath.specs.Meaning as meaning
use Rattle.std.proofs.lemmas.Bool.{lt-ltb}
use Rattle.px_explain.specs.declared.node.ProofNode.{ProofNode}
use Rattle.px_explain.specs.declared.node.ProofNode.TheVariants.{Y, N}
use Rattle.px_explain.specs.declared.fault.ExplainFault.{ExplainFault}
use Rattle.px_explain.specs.declared.fault.ExplainFault.TheVariants.{TooMany, Memory}
use Rattle.px_explain.specs.Canonical as why
use Rattle.px_explain.specs.Bounds.{Exceeds, has_above}
use Rattle.px_explain.specs.Writing.{Writes, Searched, Found, Past, Beyond, search_among}
use Rattle.px_explain.proofs.Accepted.{candidate_nodes}
use Rattle.px_explain.proofs.Searching.{Says, says}
use Rattle.std.proofs.Math.Bool.{or-true}

pub writes_two : (xs ys a b c : List ProofNode) (result : Result (Unit {0}) ExplainFault) → b ≡ a ++ xs → Writes ys b c result → Writes (xs ++ ys) a c result
writes_two xs ys a b c (Ok u) e h = h ∙ ap (λ (q : List ProofNode). q ++ ys) e ∙ append_assoc a xs ys
writes_two xs ys a b c (Err TooMany) e h = λ more. subst Exceeds (again a xs ys b more e) (h more)
  where
    again : (a xs ys b more : List ProofNode) → b ≡ a ++ xs → (b ++ ys) ++ more ≡ (a ++ (xs ++ ys)) ++ more
    again a xs ys b more e = ap (λ (q : List ProofNode). (q ++ ys) ++ more) e ∙ ap (λ (q : List ProofNode). q ++ more) (append_assoc a xs ys)
writes_two xs ys a b c (Err Memory) e h = tt

pub writes_stop : (xs ys a b : List ProofNode) (fault : ExplainFault) → Writes xs a b (Err fault) → Writes (xs ++ ys) a b (Err fault)
writes_stop xs ys a b TooMany h = λ more. subst Exceeds (again a xs ys more) (h (ys ++ more))
  where
    again : (a xs ys more : List ProofNode) → (a ++ xs) ++ (ys ++ more) ≡ (a ++ (xs ++ ys)) ++ more
    again a xs ys more = sym (append_assoc (a ++ xs) ys more) ∙ ap (λ (q : List ProofNode). q ++ more) (append_assoc a xs ys)
writes_stop xs ys a b Memory h = tt

-- under another spelling of what is written
pub writes_as : (xs ys a b : List ProofNode) (result : Result (Unit {0}) ExplainFault) → xs ≡ ys → Writes ys a b result → Writes xs a b result
writes_as xs ys a b result e h = subst (λ (zs : List ProofNode). Writes zs a b result) (sym e) h

-- in a loop: what is written so far and what is left make the whole
pub goes_wrong : (all xs rest start out new : List ProofNode) (fault : ExplainFault) → start ++ all ≡ out ++ (xs ++ rest) → Writes xs out new (Err fault) → Writes all start new (Err fault)
goes_wrong all xs rest start out new TooMany e h =
    λ more. subst Exceeds (sym (append_assoc (out ++ xs) rest more) ∙ ap (λ (q : List ProofNode). q ++ more) (append_assoc out xs rest ∙ sym e)) (h (rest ++ more))
goes_wrong all xs rest start out new Memory e h = tt

any_at : (f : ProofNode → Bool) (old rest : List ProofNode) (x : ProofNode) → f x ≡ true → list_any f (old ++ x ∷ rest) ≡ true
any_at f [] rest x h = rw h refl
any_at f (o ∷ old) rest x h = rw (any_at f old rest x h) (or-true (f o))

-- a number that is too large
pub exceeds_number : (nodes rest old new : List ProofNode) (x : ProofNode) → nodes ≡ x ∷ rest → has_above 4_294_967_295 x ≡ true → Writes nodes old new (Err TooMany)
exceeds_number nodes rest old new x e h =
    λ more. record {
      so = inr (subst (λ (zs : List ProofNode). list_any (has_above 4_294_967_295) ((old ++ zs) ++ more) ≡ true) (sym e)
          (subst (λ (zs : List ProofNode). list_any (has_above 4_294_967_295) zs ≡ true) (sym (append_assoc old (x ∷ rest) more)) (any_at (has_above 4_294_967_295) old (rest ++ more) x h)));
    }

-- what a search says of a path
pub step_found : (axis : Axis) (t : Test) (cs : Conditions) (onward : Way) (end : Place → Bool) (x y : Place) (n r : ℕ) →
    Found y r ≡ search_among (λ y. meaning.meets t y && meaning.all_hold cs y && meaning.way_holds onward end y) n (meaning.candidates axis x) →
    why.way (StepThen axis t cs onward) end x ≡ Y (n - r) ∷ (why.each cs y ++ why.way onward end y)
step_found axis t cs onward end x y n r e =
    let made = λ (k : ℕ) (z : Place). Y k ∷ why.each cs z ++ why.way onward end z in
    let other = N (length (meaning.candidates axis x)) ∷ flat_map (candidate_nodes t cs onward end) (meaning.candidates axis x) in
    let s = subst (λ (q : Searched). Says q (why.way (StepThen axis t cs onward) end x) made other 1 n (meaning.candidates axis x)) (sym e)
    (says (λ z. meaning.meets t z && meaning.all_hold cs z && meaning.way_holds onward end z) made other 1 n (meaning.candidates axis x)) in
    s.2 ∙ ap (λ (k : ℕ). Y k ∷ (why.each cs y ++ why.way onward end y)) (number s.0 n r s.1)
  where
    number : (j n r : ℕ) → j + suc r ≡ n → j + 1 ≡ n - r
    number j n r h = omega arith

pub step_past : (axis : Axis) (t : Test) (cs : Conditions) (onward : Way) (end : Place → Bool) (x : Place) (n r : ℕ) →
    Past r ≡ search_among (λ y. meaning.meets t y && meaning.all_hold cs y && meaning.way_holds onward end y) n (meaning.candidates axis x) →
    why.way (StepThen axis t cs onward) end x ≡ N (n - r) ∷ flat_map (candidate_nodes t cs onward end) (meaning.candidates axis x)
step_past axis t cs onward end x n r e =
    let made = λ (k : ℕ) (z : Place). Y k ∷ why.each cs z ++ why.way onward end z in
    let other = N (length (meaning.candidates axis x)) ∷ flat_map (candidate_nodes t cs onward end) (meaning.candidates axis x) in
    let s = subst (λ (q : Searched). Says q (why.way (StepThen axis t cs onward) end x) made other 1 n (meaning.candidates axis x)) (sym e)
    (says (λ z. meaning.meets t z && meaning.all_hold cs z && meaning.way_holds onward end z) made other 1 n (meaning.candidates axis x)) in
    s.1 ∙ ap (λ (k : ℕ). N k ∷ flat_map (candidate_nodes t cs onward end) (meaning.candidates axis x)) (number (length (meaning.candidates axis x)) n r s.0)
  where
    number : (l n r : ℕ) → l + r ≡ n → l ≡ n - r
    number l n r h = omega arith

pub step_beyond : (axis : Axis) (t : Test) (cs : Conditions) (onward : Way) (end : Place → Bool) (x : Place) (n : ℕ) →
    Beyond ≡ search_among (λ y. meaning.meets t y && meaning.all_hold cs y && meaning.way_holds onward end y) n (meaning.candidates axis x) →
    (node : ProofNode) × (rest : List ProofNode) × (why.way (StepThen axis t cs onward) end x ≡ node ∷ rest) × (has_above n node ≡ true)
step_beyond axis t cs onward end x n e =
    let made = λ (k : ℕ) (z : Place). Y k ∷ why.each cs z ++ why.way onward end z in
    let other = N (length (meaning.candidates axis x)) ∷ flat_map (candidate_nodes t cs onward end) (meaning.candidates axis x) in
    by_case (subst (λ (q : Searched). Says q (why.way (StepThen axis t cs onward) end x) made other 1 n (meaning.candidates axis x)) (sym e)
    (says (λ z. meaning.meets t z && meaning.all_hold cs z && meaning.way_holds onward end z) made other 1 n (meaning.candidates axis x)))
  where
    by_case : Says Beyond (why.way (StepThen axis t cs onward) end x) (λ k z. Y k ∷ why.each cs z ++ why.way onward end z)
        (N (length (meaning.candidates axis x)) ∷ flat_map (candidate_nodes t cs onward end) (meaning.candidates axis x)) 1 n (meaning.candidates axis x) →
        (node : ProofNode) × (rest : List ProofNode) × (why.way (StepThen axis t cs onward) end x ≡ node ∷ rest) × (has_above n node ≡ true)
    by_case (inl h) = (N (length (meaning.candidates axis x)), flat_map (candidate_nodes t cs onward end) (meaning.candidates axis x), h.1, lt-ltb n (length (meaning.candidates axis x)) h.0)
    by_case (inr h) = (Y (h.0 + 1), why.each cs h.1 ++ why.way onward end h.1, h.3, lt-ltb n (h.0 + 1) (let k = h.2 in omega arith))

-- of a whole proof
pub exceeds_whole : (nodes other new : List ProofNode) (fault : ExplainFault) → nodes ≡ other → Writes nodes [] new (Err fault) → fault ≡ TooMany → Exceeds other
exceeds_whole nodes other new TooMany e h f = subst Exceeds (append-nil nodes ∙ e) (h [])
exceeds_whole nodes other new Memory e h f = absurd (apart f)
  where
    apart : Memory ≡ TooMany → ⊥
    apart g = cc
