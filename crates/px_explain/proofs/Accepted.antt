-- The canonical proof is accepted.
use Rattle.std.proofs.Common.{◌≡◌, ℕ, zero, suc, ◌+◌, add-one, arith, Bool, true, false, not, ◌&&◌, List, [], ◌∷◌, ◌++◌, append_assoc, append-nil, eq-eqb, option_map, map, length, Option, Some, None, Ok, refl, ap, ◌∙◌, sym, subst, cond, ◌⊎◌, inl, inr}
use Rattle.std.specs.List.{list_any, flat_map}
use Rattle.std.specs.Prelude.{◌||◌}
use Rattle.px_text.specs.Nodes.{Root, Place, AtDocument, string_value}
use Rattle.px_xpath.specs.declared.filter.Axis.{Axis}
use Rattle.px_xpath.specs.declared.filter.Test.{Test}
use Rattle.px_xpath.specs.Filters.{Way, Arrived, StepThen, Condition, Selects, Compares, EachOf, SomeOf, Fails, Conditions, NoConditions, CondThen}
use Rattle.px_xpath.specs.Proper.{has_steps, has_two, may_compare, steps_proper, condition_proper, all_proper, is_proper}
use Rattle.px_xpath.specs.Meaning as meaning
use Rattle.px_explain.specs.declared.node.ProofNode.{ProofNode}
use Rattle.px_explain.specs.declared.node.ProofNode.TheVariants.{Y, N, T, C, V, A, B, O, P}
use Rattle.px_explain.specs.Table.{Claim, Path, Each, OneOf, Candidate, nth, list, claim, rest_holds, leads, behind, where_valid, left, whole}
use Rattle.px_explain.specs.Canonical as why
use Rattle.px_explain.specs.Canonical.{least, rest_fails, is_answer, canonical}
use Rattle.px_explain.proofs.Sound.{one_passes, one_fails, one_holds}
use Rattle.std.proofs.lemmas.Bool.{and_parts, or_parts}
use Rattle.std.proofs.lemmas.Option.{none-some}

-- the canonical proof of a path, and of a condition, is accepted in front of anything
abbrev pub OkPath : Way → (Place → Bool) → Place → Type 0
OkPath w end x = (gs : List Claim) (ns : List ProofNode) → left (Path (meaning.way_holds w end x) w end x ∷ gs) (why.way w end x ++ ns) ≡ left gs ns

abbrev pub OkCondition : Condition → Type 0
OkCondition c = (x : Place) (gs : List Claim) (ns : List ProofNode) → left (claim (meaning.condition_holds c x) x c ∷ gs) (why.condition c x ++ ns) ≡ left gs ns

abbrev pub OkConditions : Conditions → Type 0
OkConditions cs = (i : ℕ) (c : Condition) → nth (list cs) i ≡ Some c → OkCondition c

pub behind_first : (c : Condition) (cs : Conditions) → OkConditions (CondThen c cs) → OkConditions cs
behind_first c cs ok zero d e = cc
behind_first c cs ok (suc i) d e = ok (suc (suc i)) d e

-- accepted, where the answer is known
known : (c : Condition) → OkCondition c → (x : Place) (answer : Bool) → meaning.condition_holds c x ≡ answer →
    (gs : List Claim) (ns : List ProofNode) → left (claim answer x c ∷ gs) (why.condition c x ++ ns) ≡ left gs ns
known c ok x answer h gs ns = subst (λ (b : Bool). left (claim b x c ∷ gs) (why.condition c x ++ ns) ≡ left gs ns) h (ok x gs ns)

pub each_true : (cs : Conditions) → OkConditions cs → (x : Place) → meaning.all_hold cs x ≡ true → (gs : List Claim) (ns : List ProofNode) →
    left (map (claim true x) (list cs) ++ gs) (why.each cs x ++ ns) ≡ left gs ns
each_true NoConditions ok x h gs ns = refl
each_true (CondThen c cs) ok x h gs ns =
    let both = and_parts (meaning.condition_holds c x) (meaning.all_hold cs x) h in
    ap (left (claim true x c ∷ (map (claim true x) (list cs) ++ gs))) (append_assoc (why.condition c x) (why.each cs x) ns)
    ∙ known c (ok (suc zero) c refl) x true both.0 (map (claim true x) (list cs) ++ gs) (why.each cs x ++ ns)
    ∙ each_true cs (behind_first c cs ok) x both.1 gs ns

pub each_false : (cs : Conditions) → OkConditions cs → (x : Place) → meaning.some_holds cs x ≡ false → (gs : List Claim) (ns : List ProofNode) →
    left (map (claim false x) (list cs) ++ gs) (why.each cs x ++ ns) ≡ left gs ns
each_false NoConditions ok x h gs ns = refl
each_false (CondThen c cs) ok x h gs ns =
    let both = or_parts (meaning.condition_holds c x) (meaning.some_holds cs x) h in
    ap (left (claim false x c ∷ (map (claim false x) (list cs) ++ gs))) (append_assoc (why.condition c x) (why.each cs x) ns)
    ∙ known c (ok (suc zero) c refl) x false both.0 (map (claim false x) (list cs) ++ gs) (why.each cs x ++ ns)
    ∙ each_false cs (behind_first c cs ok) x both.1 gs ns

-- no condition has this answer
abbrev pub NoneHas : Bool → Conditions → Place → Type 0
NoneHas true cs x = meaning.some_holds cs x ≡ false
NoneHas false cs x = meaning.all_hold cs x ≡ true

-- the first condition with an answer, and its place
pub record IsFirst (answer : Bool) (node : ℕ → ProofNode) (k : ℕ) (cs : Conditions) (x : Place) (nodes : List ProofNode) : Type 0 where
  pub i : ℕ
  pub c : Condition
  pub at : nth (list cs) (suc i) ≡ Some c
  pub has : meaning.condition_holds c x ≡ answer
  pub nodes_are : nodes ≡ node (i + k) ∷ why.condition c x

none_more : (answer : Bool) (c : Condition) (cs : Conditions) (x : Place) → is_answer answer (meaning.condition_holds c x) ≡ false → NoneHas answer cs x → NoneHas answer (CondThen c cs) x
none_more true c cs x h n = rw h n
none_more false c cs x h n = two (meaning.condition_holds c x) h
  where
    two : (b : Bool) → is_answer false b ≡ false → (b && meaning.all_hold cs x) ≡ true
    two true h = n
    two false h = cc

has_answer : (answer b : Bool) → is_answer answer b ≡ true → b ≡ answer
has_answer true b h = h
has_answer false true h = cc
has_answer false false h = refl

pub first_is : (answer : Bool) (node : ℕ → ProofNode) (k : ℕ) (cs : Conditions) (x : Place) (other : List ProofNode) →
    IsFirst answer node k cs x (why.first answer node k cs x other) ⊎ (NoneHas answer cs x × (why.first answer node k cs x other ≡ other))
first_is true node k NoConditions x other = inr (refl, refl)
first_is false node k NoConditions x other = inr (refl, refl)
first_is answer node k (CondThen c cs) x other =
    by_first (is_answer answer (meaning.condition_holds c x)) refl (first_is answer node (suc k) cs x other)
  where
    by_first : (b : Bool) → is_answer answer (meaning.condition_holds c x) ≡ b →
        IsFirst answer node (suc k) cs x (why.first answer node (suc k) cs x other) ⊎ (NoneHas answer cs x × (why.first answer node (suc k) cs x other ≡ other)) →
        IsFirst answer node k (CondThen c cs) x (cond b (node k ∷ why.condition c x) (why.first answer node (suc k) cs x other))
        ⊎ (NoneHas answer (CondThen c cs) x × (cond b (node k ∷ why.condition c x) (why.first answer node (suc k) cs x other) ≡ other))
    by_first true e later = inl (record { i = zero; c = c; at = refl; has = has_answer answer (meaning.condition_holds c x) e; nodes_are = ap (λ (n : ℕ). node n ∷ why.condition c x) (omega arith) })
    by_first false e (inl f) = inl (record { i = suc f.i; c = f.c; at = f.at; has = f.has; nodes_are = f.nodes_are ∙ ap (λ (n : ℕ). node n ∷ why.condition f.c x) (omega arith) })
    by_first false e (inr n) = inr (none_more answer c cs x e n.0, n.1)

-- the first item that passes, and its place
pub record IsLeast {X : Type 0} (passes : X → Bool) (made : ℕ → X → List ProofNode) (k : ℕ) (xs : List X) (nodes : List ProofNode) : Type 0 where
  pub i : ℕ
  pub y : X
  pub at : nth xs (suc i) ≡ Some y
  pub passing : passes y ≡ true
  pub nodes_are : nodes ≡ made (i + k) y

pub least_is : {X : Type 0} (passes : X → Bool) (made : ℕ → X → List ProofNode) (other : List ProofNode) (k : ℕ) (xs : List X) →
    IsLeast passes made k xs (least passes made other k xs) ⊎ ((list_any passes xs ≡ false) × (least passes made other k xs ≡ other))
least_is passes made other k [] = inr (refl, refl)
least_is passes made other k (x ∷ xs) = by_first (passes x) refl (least_is passes made other (suc k) xs)
  where
    by_first : (b : Bool) → passes x ≡ b →
        IsLeast passes made (suc k) xs (least passes made other (suc k) xs) ⊎ ((list_any passes xs ≡ false) × (least passes made other (suc k) xs ≡ other)) →
        IsLeast passes made k (x ∷ xs) (cond b (made k x) (least passes made other (suc k) xs))
        ⊎ (((b || list_any passes xs) ≡ false) × (cond b (made k x) (least passes made other (suc k) xs) ≡ other))
    by_first true e later = inl (record { i = zero; y = x; at = refl; passing = e; nodes_are = ap (λ (n : ℕ). made n x) (omega arith) })
    by_first false e (inl f) = inl (record { i = suc f.i; y = f.y; at = f.at; passing = f.passing; nodes_are = f.nodes_are ∙ ap (λ (n : ℕ). made n f.y) (omega arith) })
    by_first false e (inr n) = inr n

-- a node that is valid, and what is left behind it
on : (g : Claim) (n : ProofNode) (more gs : List Claim) (ns : List ProofNode) → behind g n ≡ Some more → left (g ∷ gs) (n ∷ ns) ≡ left (more ++ gs) ns
on g n more gs ns e = ap (λ (o : Option (List Claim)). where_valid o (λ more. left (more ++ gs) ns) (n ∷ ns)) e

-- the same of the rest of a path, if there is one
abbrev pub OkRest : Way → (Place → Bool) → Place → Type 0
OkRest Arrived end y = Unit {0}
OkRest (StepThen axis t cs onward) end y = OkPath (StepThen axis t cs onward) end y

whole_path : (w : Way) (end : Place → Bool) (x : Place) → has_steps w ≡ true → OkRest w end x → OkPath w end x
whole_path Arrived end x s ok = cc
whole_path (StepThen axis t cs onward) end x s ok = ok

-- the same of a path whose answer is known
known_path : (w : Way) (end : Place → Bool) (x : Place) → OkPath w end x → (answer : Bool) → meaning.way_holds w end x ≡ answer →
    (gs : List Claim) (ns : List ProofNode) → left (Path answer w end x ∷ gs) (why.way w end x ++ ns) ≡ left gs ns
known_path w end x ok answer h gs ns = subst (λ (b : Bool). left (Path b w end x ∷ gs) (why.way w end x ++ ns) ≡ left gs ns) h (ok gs ns)

mapped_some : {A : Type 0} (f : A → List Claim) (o : Option A) (x : A) → o ≡ Some x → option_map f o ≡ Some (f x)
mapped_some f o x e = rw e refl

last_of : (a b c : Bool) → a ≡ true → b ≡ true → (a && b && c) ≡ false → c ≡ false
last_of a b c ha hb h = grind arith

passing_parts : (a b c : Bool) → (a && b && c) ≡ true → (a ≡ true) × (b ≡ true) × (c ≡ true)
passing_parts true true true h = (refl, refl, refl)
passing_parts true true false h = cc
passing_parts true false c h = cc
passing_parts false b c h = cc

-- why the rest of a path fails
rest_ok : (t : Test) (cs : Conditions) (onward : Way) (end : Place → Bool) (y : Place) → OkRest onward end y → meaning.way_holds onward end y ≡ false →
    (gs : List Claim) (ns : List ProofNode) → left (Candidate t cs onward end y ∷ gs) (rest_fails onward ∷ why.way onward end y ++ ns) ≡ left gs ns
rest_ok t cs Arrived end y ok h gs ns = on (Candidate t cs Arrived end y) V [] gs ns (rw h refl)
rest_ok t cs (StepThen axis next more onward) end y ok h gs ns = known_path (StepThen axis next more onward) end y ok false h gs ns

-- why a candidate fails
abbrev pub candidate_nodes : Test → Conditions → Way → (Place → Bool) → Place → List ProofNode
candidate_nodes t cs onward end y = cond (meaning.meets t y) (why.first false C 1 cs y (rest_fails onward ∷ why.way onward end y)) (T ∷ [])

candidate_ok : (t : Test) (cs : Conditions) (onward : Way) (end : Place → Bool) (y : Place) → OkConditions cs → OkRest onward end y →
    (meaning.meets t y && meaning.all_hold cs y && meaning.way_holds onward end y) ≡ false →
    (gs : List Claim) (ns : List ProofNode) → left (Candidate t cs onward end y ∷ gs) (candidate_nodes t cs onward end y ++ ns) ≡ left gs ns
candidate_ok t cs onward end y oks ok h gs ns = by_test (meaning.meets t y) refl (first_is false C 1 cs y (rest_fails onward ∷ why.way onward end y))
  where
    by_test : (b : Bool) → meaning.meets t y ≡ b →
        IsFirst false C 1 cs y (why.first false C 1 cs y (rest_fails onward ∷ why.way onward end y))
        ⊎ (NoneHas false cs y × (why.first false C 1 cs y (rest_fails onward ∷ why.way onward end y) ≡ (rest_fails onward ∷ why.way onward end y))) →
        left (Candidate t cs onward end y ∷ gs) (cond b (why.first false C 1 cs y (rest_fails onward ∷ why.way onward end y)) (T ∷ []) ++ ns) ≡ left gs ns
    by_test false e f = on (Candidate t cs onward end y) T [] gs ns (rw e refl)
    by_test true e (inl f) =
        ap (λ (ps : List ProofNode). left (Candidate t cs onward end y ∷ gs) (ps ++ ns)) f.nodes_are
        ∙ ap (λ (n : ℕ). left (Candidate t cs onward end y ∷ gs) (C n ∷ why.condition f.c y ++ ns)) (add-one f.i)
        ∙ on (Candidate t cs onward end y) (C (suc f.i)) (claim false y f.c ∷ []) gs (why.condition f.c y ++ ns) (mapped_some (λ c. claim false y c ∷ []) (nth (list cs) (suc f.i)) f.c f.at)
        ∙ known f.c (oks (suc f.i) f.c f.at) y false f.has gs ns
    by_test true e (inr n) =
        ap (λ (ps : List ProofNode). left (Candidate t cs onward end y ∷ gs) (ps ++ ns)) n.1
        ∙ rest_ok t cs onward end y ok (last_of (meaning.meets t y) (meaning.all_hold cs y) (meaning.way_holds onward end y) e n.0 h) gs ns

-- why each of the candidates fails
candidates_ok : (t : Test) (cs : Conditions) (onward : Way) (end : Place → Bool) → OkConditions cs → ((y : Place) → OkRest onward end y) → (ys : List Place) →
    list_any (λ y. meaning.meets t y && meaning.all_hold cs y && meaning.way_holds onward end y) ys ≡ false →
    (gs : List Claim) (ns : List ProofNode) → left (map (Candidate t cs onward end) ys ++ gs) (flat_map (candidate_nodes t cs onward end) ys ++ ns) ≡ left gs ns
candidates_ok t cs onward end oks ok [] h gs ns = refl
candidates_ok t cs onward end oks ok (y ∷ ys) h gs ns =
    let both = or_parts (meaning.meets t y && meaning.all_hold cs y && meaning.way_holds onward end y) (list_any (λ y. meaning.meets t y && meaning.all_hold cs y && meaning.way_holds onward end y) ys) h in
    ap (left (Candidate t cs onward end y ∷ (map (Candidate t cs onward end) ys ++ gs))) (append_assoc (candidate_nodes t cs onward end y) (flat_map (candidate_nodes t cs onward end) ys) ns)
    ∙ candidate_ok t cs onward end y oks (ok y) both.0 (map (Candidate t cs onward end) ys ++ gs) (flat_map (candidate_nodes t cs onward end) ys ++ ns)
    ∙ candidates_ok t cs onward end oks ok ys both.1 gs ns

-- why a candidate leads on
leads_on : (t : Test) (onward : Way) (end : Place → Bool) (y : Place) → meaning.meets t y ≡ true → meaning.way_holds onward end y ≡ true → leads t onward end y ≡ true
leads_on t Arrived end y m h = rw (m, h) refl
leads_on t (StepThen axis next more onward) end y m h = m

rest_led : (onward : Way) (end : Place → Bool) (y : Place) → OkRest onward end y → meaning.way_holds onward end y ≡ true →
    (gs : List Claim) (ns : List ProofNode) → left (rest_holds onward end y ++ gs) (why.way onward end y ++ ns) ≡ left gs ns
rest_led Arrived end y ok h gs ns = refl
rest_led (StepThen axis next more onward) end y ok h gs ns = known_path (StepThen axis next more onward) end y ok true h gs ns

led : (axis : Axis) (t : Test) (cs : Conditions) (onward : Way) (end : Place → Bool) (x y : Place) (i : ℕ) → nth (meaning.candidates axis x) (suc i) ≡ Some y → leads t onward end y ≡ true →
    behind (Path true (StepThen axis t cs onward) end x) (Y (suc i)) ≡ Some (map (claim true y) (list cs) ++ rest_holds onward end y)
led axis t cs onward end x y i at l = rw at (rw l refl)

path_ok : (axis : Axis) (t : Test) (cs : Conditions) (onward : Way) (end : Place → Bool) → OkConditions cs → ((y : Place) → OkRest onward end y) → (x : Place) → OkPath (StepThen axis t cs onward) end x
path_ok axis t cs onward end oks ok x gs ns =
    by_least (least_is passes made other 1 (meaning.candidates axis x))
  where
    passes : Place → Bool
    passes = λ y. meaning.meets t y && meaning.all_hold cs y && meaning.way_holds onward end y

    made : ℕ → Place → List ProofNode
    made = λ k y. Y k ∷ why.each cs y ++ why.way onward end y

    other : List ProofNode
    other = N (length (meaning.candidates axis x)) ∷ flat_map (candidate_nodes t cs onward end) (meaning.candidates axis x)

    by_least : IsLeast passes made 1 (meaning.candidates axis x) (least passes made other 1 (meaning.candidates axis x))
        ⊎ ((list_any passes (meaning.candidates axis x) ≡ false) × (least passes made other 1 (meaning.candidates axis x) ≡ other)) →
        left (Path (list_any passes (meaning.candidates axis x)) (StepThen axis t cs onward) end x ∷ gs) (least passes made other 1 (meaning.candidates axis x) ++ ns) ≡ left gs ns
    by_least (inl f) =
        let parts = passing_parts (meaning.meets t f.y) (meaning.all_hold cs f.y) (meaning.way_holds onward end f.y) f.passing in
        ap (λ (b : Bool). left (Path b (StepThen axis t cs onward) end x ∷ gs) (least passes made other 1 (meaning.candidates axis x) ++ ns))
        (one_passes passes (meaning.candidates axis x) (suc f.i) f.y f.at f.passing)
        ∙ ap (λ (ps : List ProofNode). left (Path true (StepThen axis t cs onward) end x ∷ gs) (ps ++ ns)) f.nodes_are
        ∙ ap (λ (n : ℕ). left (Path true (StepThen axis t cs onward) end x ∷ gs) (Y n ∷ (why.each cs f.y ++ why.way onward end f.y) ++ ns)) (add-one f.i)
        ∙ on (Path true (StepThen axis t cs onward) end x) (Y (suc f.i)) (map (claim true f.y) (list cs) ++ rest_holds onward end f.y) gs ((why.each cs f.y ++ why.way onward end f.y) ++ ns)
        (led axis t cs onward end x f.y f.i f.at (leads_on t onward end f.y parts.0 parts.2))
        ∙ ap (λ (hs : List Claim). left hs ((why.each cs f.y ++ why.way onward end f.y) ++ ns)) (append_assoc (map (claim true f.y) (list cs)) (rest_holds onward end f.y) gs)
        ∙ ap (left (map (claim true f.y) (list cs) ++ (rest_holds onward end f.y ++ gs))) (append_assoc (why.each cs f.y) (why.way onward end f.y) ns)
        ∙ each_true cs oks f.y parts.1 (rest_holds onward end f.y ++ gs) (why.way onward end f.y ++ ns)
        ∙ rest_led onward end f.y (ok f.y) parts.2 gs ns
    by_least (inr n) =
        ap (λ (b : Bool). left (Path b (StepThen axis t cs onward) end x ∷ gs) (least passes made other 1 (meaning.candidates axis x) ++ ns)) n.0
        ∙ ap (λ (ps : List ProofNode). left (Path false (StepThen axis t cs onward) end x ∷ gs) (ps ++ ns)) n.1
        ∙ on (Path false (StepThen axis t cs onward) end x) (N (length (meaning.candidates axis x))) (map (Candidate t cs onward end) (meaning.candidates axis x)) gs
        (flat_map (candidate_nodes t cs onward end) (meaning.candidates axis x) ++ ns) (rw (eq-eqb (length (meaning.candidates axis x)) (length (meaning.candidates axis x)) refl) refl)
        ∙ candidates_ok t cs onward end oks ok (meaning.candidates axis x) n.0 gs ns

-- an `and` and an `or`
and_ok : (cs : Conditions) → OkConditions cs → OkCondition (EachOf cs)
and_ok cs oks x gs ns = by_first (first_is false B 1 cs x (A ∷ why.each cs x))
  where
    by_first : IsFirst false B 1 cs x (why.first false B 1 cs x (A ∷ why.each cs x)) ⊎ (NoneHas false cs x × (why.first false B 1 cs x (A ∷ why.each cs x) ≡ (A ∷ why.each cs x))) →
        left (Each (meaning.all_hold cs x) cs x ∷ gs) (why.first false B 1 cs x (A ∷ why.each cs x) ++ ns) ≡ left gs ns
    by_first (inl f) =
        ap (λ (b : Bool). left (Each b cs x ∷ gs) (why.first false B 1 cs x (A ∷ why.each cs x) ++ ns)) (one_fails x cs (suc f.i) f.c f.at f.has)
        ∙ ap (λ (ps : List ProofNode). left (Each false cs x ∷ gs) (ps ++ ns)) f.nodes_are
        ∙ ap (λ (n : ℕ). left (Each false cs x ∷ gs) (B n ∷ why.condition f.c x ++ ns)) (add-one f.i)
        ∙ on (Each false cs x) (B (suc f.i)) (claim false x f.c ∷ []) gs (why.condition f.c x ++ ns) (mapped_some (λ c. claim false x c ∷ []) (nth (list cs) (suc f.i)) f.c f.at)
        ∙ known f.c (oks (suc f.i) f.c f.at) x false f.has gs ns
    by_first (inr n) =
        ap (λ (b : Bool). left (Each b cs x ∷ gs) (why.first false B 1 cs x (A ∷ why.each cs x) ++ ns)) n.0
        ∙ ap (λ (ps : List ProofNode). left (Each true cs x ∷ gs) (ps ++ ns)) n.1
        ∙ each_true cs oks x n.0 gs ns

or_ok : (cs : Conditions) → OkConditions cs → OkCondition (SomeOf cs)
or_ok cs oks x gs ns = by_first (first_is true O 1 cs x (P ∷ why.each cs x))
  where
    by_first : IsFirst true O 1 cs x (why.first true O 1 cs x (P ∷ why.each cs x)) ⊎ (NoneHas true cs x × (why.first true O 1 cs x (P ∷ why.each cs x) ≡ (P ∷ why.each cs x))) →
        left (OneOf (meaning.some_holds cs x) cs x ∷ gs) (why.first true O 1 cs x (P ∷ why.each cs x) ++ ns) ≡ left gs ns
    by_first (inl f) =
        ap (λ (b : Bool). left (OneOf b cs x ∷ gs) (why.first true O 1 cs x (P ∷ why.each cs x) ++ ns)) (one_holds x cs (suc f.i) f.c f.at f.has)
        ∙ ap (λ (ps : List ProofNode). left (OneOf true cs x ∷ gs) (ps ++ ns)) f.nodes_are
        ∙ ap (λ (n : ℕ). left (OneOf true cs x ∷ gs) (O n ∷ why.condition f.c x ++ ns)) (add-one f.i)
        ∙ on (OneOf true cs x) (O (suc f.i)) (claim true x f.c ∷ []) gs (why.condition f.c x ++ ns) (mapped_some (λ c. claim true x c ∷ []) (nth (list cs) (suc f.i)) f.c f.at)
        ∙ known f.c (oks (suc f.i) f.c f.at) x true f.has gs ns
    by_first (inr n) =
        ap (λ (b : Bool). left (OneOf b cs x ∷ gs) (why.first true O 1 cs x (P ∷ why.each cs x) ++ ns)) n.0
        ∙ ap (λ (ps : List ProofNode). left (OneOf false cs x ∷ gs) (ps ++ ns)) n.1
        ∙ each_false cs oks x n.0 gs ns

not_twice : (b : Bool) → not (not b) ≡ b
not_twice true = refl
not_twice false = refl

not_ok : (c : Condition) → OkCondition c → OkCondition (Fails c)
not_ok c ok x gs ns =
    ap (λ (b : Bool). left (claim b x c ∷ gs) (why.condition c x ++ ns)) (not_twice (meaning.condition_holds c x)) ∙ ok x gs ns

mutual
  pub rest_all : (w : Way) → steps_proper w ≡ true → (end : Place → Bool) (y : Place) → OkRest w end y
  rest_all Arrived h end y = tt
  rest_all (StepThen axis t cs onward) h end y =
      let both = and_parts (all_proper cs) (steps_proper onward) h in
      path_ok axis t cs onward end (conditions_ok cs both.0) (rest_all onward both.1 end) y

  pub condition_ok : (c : Condition) → condition_proper c ≡ true → OkCondition c
  condition_ok (Selects w) h x = let both = and_parts (has_steps w) (steps_proper w) h in whole_path w (λ y. true) x both.0 (rest_all w both.1 (λ y. true) x)
  condition_ok (Compares w r value) h x =
      let both = and_parts (has_steps w && steps_proper w) (may_compare r value) h in
      let steps = and_parts (has_steps w) (steps_proper w) both.0 in
      whole_path w (λ y. meaning.compares r value (string_value y)) x steps.0 (rest_all w steps.1 (λ y. meaning.compares r value (string_value y)) x)
  condition_ok (EachOf cs) h x = and_ok cs (conditions_ok cs (and_parts (has_two cs) (all_proper cs) h).1) x
  condition_ok (SomeOf cs) h x = or_ok cs (conditions_ok cs (and_parts (has_two cs) (all_proper cs) h).1) x
  condition_ok (Fails c) h x = not_ok c (condition_ok c h) x

  pub conditions_ok : (cs : Conditions) → all_proper cs ≡ true → OkConditions cs
  conditions_ok NoConditions h zero c e = absurd (none-some c e)
  conditions_ok NoConditions h (suc i) c e = absurd (none-some c e)
  conditions_ok (CondThen d cs) h zero c e = absurd (none-some c e)
  conditions_ok (CondThen d cs) h (suc zero) c e =
      let same : d ≡ c = cc in subst OkCondition same (condition_ok d (and_parts (condition_proper d) (all_proper cs) h).0)
  conditions_ok (CondThen d cs) h (suc (suc i)) c e = conditions_ok cs (and_parts (condition_proper d) (all_proper cs) h).1 (suc i) c e

-- The canonical proof of a filter is accepted for its answer.
pub canonical_ok : (filter : Way) (root : Root) → is_proper filter ≡ true → left (whole (meaning.holds filter root) filter root ∷ []) (canonical filter root) ≡ Ok []
canonical_ok filter root h =
    let both = and_parts (has_steps filter) (steps_proper filter) h in
    ap (left (whole (meaning.holds filter root) filter root ∷ [])) (sym (append-nil (canonical filter root)))
    ∙ whole_path filter (λ y. true) (AtDocument root) both.0 (rest_all filter both.1 (λ y. true) (AtDocument root)) [] []
