-- What proofs prove is so.
use Rattle.std.proofs.Common.{length, nat_eq, option_map, ◌≡◌, ℕ, zero, suc, Bool, true, false, not, ◌&&◌, List, [], ◌∷◌, ◌++◌, map, Option, Some, None, Ok, refl, sym, cond, subst}
use Rattle.std.specs.List.{list_any}
use Rattle.std.specs.Prelude.{◌||◌}
use Rattle.std.specs.Option.{option_and_then}
use Rattle.px_text.specs.Nodes.{Place}
use Rattle.px_xpath.specs.declared.filter.Test.{Test}
use Rattle.px_xpath.specs.Filters.{Way, Arrived, StepThen, Condition, Selects, Compares, EachOf, SomeOf, Fails, Conditions, NoConditions, CondThen}
use Rattle.px_xpath.specs.Meaning as meaning
use Rattle.px_explain.specs.declared.node.ProofNode.{ProofNode}
use Rattle.px_explain.specs.declared.node.ProofNode.TheVariants.{Y, N, T, C, R, V, A, B, O, P, Bang}
use Rattle.px_explain.specs.Table.{Claim, Path, Each, OneOf, Not, Candidate, nth, list, claim, rest_holds, leads, behind, where_valid, left}
use Rattle.std.proofs.Math.Bool.{or-true, and-false}

-- the claim is true
abbrev pub IsSo : Claim → Type 0
IsSo (Path answer way end x) = meaning.way_holds way end x ≡ answer
IsSo (Each answer conditions x) = meaning.all_hold conditions x ≡ answer
IsSo (OneOf answer conditions x) = meaning.some_holds conditions x ≡ answer
IsSo (Not answer condition x) = not (meaning.condition_holds condition x) ≡ answer
IsSo (Candidate test conditions onward end y) = (meaning.meets test y && meaning.all_hold conditions y && meaning.way_holds onward end y) ≡ false

abbrev pub AreSo : List Claim → Type 0
AreSo [] = Unit {0}
AreSo (c ∷ cs) = IsSo c × AreSo cs

pub claim_so : (answer : Bool) (x : Place) (c : Condition) → IsSo (claim answer x c) → meaning.condition_holds c x ≡ answer
claim_so answer x (Selects way) h = h
claim_so answer x (Compares way r value) h = h
claim_so answer x (EachOf conditions) h = h
claim_so answer x (SomeOf conditions) h = h
claim_so answer x (Fails condition) h = h

pub split_so : (ps bs : List Claim) → AreSo (ps ++ bs) → AreSo ps × AreSo bs
split_so [] bs h = (tt, h)
split_so (p ∷ ps) bs h = let s = split_so ps bs h.1 in ((h.0, s.0), s.1)

pub all_so : (x : Place) (cs : Conditions) → AreSo (map (claim true x) (list cs)) → meaning.all_hold cs x ≡ true
all_so x NoConditions h = refl
all_so x (CondThen c cs) h = rw (claim_so true x c h.0) (all_so x cs h.1)

pub none_so : (x : Place) (cs : Conditions) → AreSo (map (claim false x) (list cs)) → meaning.some_holds cs x ≡ false
none_so x NoConditions h = refl
none_so x (CondThen c cs) h = rw (claim_so false x c h.0) (none_so x cs h.1)

-- a condition of some number does not hold
pub one_fails : (x : Place) (cs : Conditions) (i : ℕ) (c : Condition) → nth (list cs) i ≡ Some c → meaning.condition_holds c x ≡ false → meaning.all_hold cs x ≡ false
one_fails x cs zero c e h = cc
one_fails x NoConditions (suc i) c e h = cc
one_fails x (CondThen d cs) (suc zero) c e h = let same : d ≡ c = cc in rw same (rw h refl)
one_fails x (CondThen d cs) (suc (suc i)) c e h = rw (one_fails x cs (suc i) c e h) (and-false (meaning.condition_holds d x))

pub one_holds : (x : Place) (cs : Conditions) (i : ℕ) (c : Condition) → nth (list cs) i ≡ Some c → meaning.condition_holds c x ≡ true → meaning.some_holds cs x ≡ true
one_holds x cs zero c e h = cc
one_holds x NoConditions (suc i) c e h = cc
one_holds x (CondThen d cs) (suc zero) c e h = let same : d ≡ c = cc in rw same (rw h refl)
one_holds x (CondThen d cs) (suc (suc i)) c e h = rw (one_holds x cs (suc i) c e h) (or-true (meaning.condition_holds d x))

-- a candidate of some number passes
pub one_passes : (f : Place → Bool) (xs : List Place) (k : ℕ) (y : Place) → nth xs k ≡ Some y → f y ≡ true → list_any f xs ≡ true
one_passes f xs zero y e h = cc
one_passes f [] (suc k) y e h = cc
one_passes f (x ∷ xs) (suc zero) y e h = let same : x ≡ y = cc in rw same (rw h refl)
one_passes f (x ∷ xs) (suc (suc k)) y e h = rw (one_passes f xs (suc k) y e h) (or-true (f x))

pub none_passes : (t : Test) (cs : Conditions) (onward : Way) (end : Place → Bool) (xs : List Place) → AreSo (map (Candidate t cs onward end) xs) →
    list_any (λ y. meaning.meets t y && meaning.all_hold cs y && meaning.way_holds onward end y) xs ≡ false
none_passes t cs onward end [] h = refl
none_passes t cs onward end (x ∷ xs) h = rw h.0 (none_passes t cs onward end xs h.1)

-- what is known where a test let something through
guarded : (b : Bool) (xs ys : List Claim) → cond b (Some xs) None ≡ Some ys → (b ≡ true) × (xs ≡ ys)
guarded true xs ys e = (refl, cc)
guarded false xs ys e = cc

guarded_not : (b : Bool) (xs ys : List Claim) → cond b None (Some xs) ≡ Some ys → b ≡ false
guarded_not true xs ys e = cc
guarded_not false xs ys e = refl

mapped : {A : Type 0} (f : A → List Claim) (o : Option A) (ys : List Claim) → option_map f o ≡ Some ys → (x : A) × (o ≡ Some x) × (f x ≡ ys)
mapped f None ys e = cc
mapped f (Some x) ys e = (x, refl, cc)

chained : {A : Type 0} (f : A → Option (List Claim)) (o : Option A) (ys : List Claim) → option_and_then f o ≡ Some ys → (x : A) × (o ≡ Some x) × (f x ≡ Some ys)
chained f None ys e = cc
chained f (Some x) ys e = (x, refl, e)

-- a candidate that leads on, where what is to be proved behind it is so
passes_so : (t : Test) (cs : Conditions) (onward : Way) (end : Place → Bool) (y : Place) → leads t onward end y ≡ true →
    AreSo (map (claim true y) (list cs) ++ rest_holds onward end y) → (meaning.meets t y && meaning.all_hold cs y && meaning.way_holds onward end y) ≡ true
passes_so t cs Arrived end y l h =
    let s = split_so (map (claim true y) (list cs)) [] h in
    rw (all_so y cs s.0) (both (meaning.meets t y) (end y) l)
  where
    both : (a b : Bool) → (a && b) ≡ true → (a && true && b) ≡ true
    both true b e = e
    both false b e = e
passes_so t cs (StepThen axis next more onward) end y l h =
    let s = split_so (map (claim true y) (list cs)) (rest_holds (StepThen axis next more onward) end y) h in
    rw (l, all_so y cs s.0) s.1.0

last_false : (a b c : Bool) → c ≡ false → (a && b && c) ≡ false
last_false a b c h = rw h (and-false (a && b))

middle_false : (a b c : Bool) → b ≡ false → (a && b && c) ≡ false
middle_false true b c h = rw h refl
middle_false false b c h = refl

-- what a node proves is so, where what is to be proved behind it is so
pub behind_so : (g : Claim) (n : ProofNode) (more : List Claim) → behind g n ≡ Some more → AreSo more → IsSo g
behind_so (Path true (StepThen axis t cs onward) end x) (Y k) more e h =
    let found = chained (λ y. cond (leads t onward end y) (Some (map (claim true y) (list cs) ++ rest_holds onward end y)) None) (nth (meaning.candidates axis x) k) more e in
    let led = guarded (leads t onward end found.0) (map (claim true found.0) (list cs) ++ rest_holds onward end found.0) more found.2 in
    one_passes (λ y. meaning.meets t y && meaning.all_hold cs y && meaning.way_holds onward end y) (meaning.candidates axis x) k found.0 found.1
    (passes_so t cs onward end found.0 led.0 (subst AreSo (sym led.1) h))
behind_so (Path false (StepThen axis t cs onward) end x) (N c) more e h =
    let counted = guarded (nat_eq (length (meaning.candidates axis x)) c) (map (Candidate t cs onward end) (meaning.candidates axis x)) more e in
    none_passes t cs onward end (meaning.candidates axis x) (subst AreSo (sym counted.1) h)
behind_so (Candidate t cs onward end y) T more e h = rw (guarded_not (meaning.meets t y) [] more e) refl
behind_so (Candidate t cs onward end y) (C i) more e h =
    let found = mapped (λ c. claim false y c ∷ []) (nth (list cs) i) more e in
    let failed = one_fails y cs i found.0 found.1 (claim_so false y found.0 (subst AreSo (sym found.2) h).0) in
    middle_false (meaning.meets t y) (meaning.all_hold cs y) (meaning.way_holds onward end y) failed
behind_so (Candidate t cs (StepThen axis next others onward) end y) R more e h =
    let same : (Path false (StepThen axis next others onward) end y ∷ []) ≡ more = cc in
    last_false (meaning.meets t y) (meaning.all_hold cs y) _ (subst AreSo (sym same) h).0
behind_so (Candidate t cs Arrived end y) V more e h = last_false (meaning.meets t y) (meaning.all_hold cs y) (end y) (guarded_not (end y) [] more e)
behind_so (Each true cs x) A more e h = let same : map (claim true x) (list cs) ≡ more = cc in all_so x cs (subst AreSo (sym same) h)
behind_so (Each false cs x) (B i) more e h =
    let found = mapped (λ c. claim false x c ∷ []) (nth (list cs) i) more e in
    one_fails x cs i found.0 found.1 (claim_so false x found.0 (subst AreSo (sym found.2) h).0)
behind_so (OneOf true cs x) (O i) more e h =
    let found = mapped (λ c. claim true x c ∷ []) (nth (list cs) i) more e in
    one_holds x cs i found.0 found.1 (claim_so true x found.0 (subst AreSo (sym found.2) h).0)
behind_so (OneOf false cs x) P more e h = let same : map (claim false x) (list cs) ≡ more = cc in none_so x cs (subst AreSo (sym same) h)
behind_so (Not answer c x) Bang more e h =
    let same : (claim (not answer) x c ∷ []) ≡ more = cc in
    turned answer (meaning.condition_holds c x) (claim_so (not answer) x c (subst AreSo (sym same) h).0)
  where
    turned : (a b : Bool) → b ≡ not a → not b ≡ a
    turned true b e = rw e refl
    turned false b e = rw e refl
behind_so _ _ more e h = cc

-- claims whose proofs stand in the nodes are so
pub left_so : (gs : List Claim) (ns : List ProofNode) (rest : List ProofNode) → left gs ns ≡ Ok rest → AreSo gs
left_so [] ns rest e = tt
left_so (g ∷ gs) [] rest e = cc
left_so (g ∷ gs) (n ∷ ns) rest e = by_behind (behind g n) refl (λ more. left_so (more ++ gs) ns rest) e
  where
    by_behind : (o : Option (List Claim)) → behind g n ≡ o → ((more : List Claim) → left (more ++ gs) ns ≡ Ok rest → AreSo (more ++ gs)) → where_valid o (λ more. left (more ++ gs) ns) (n ∷ ns) ≡ Ok rest → AreSo (g ∷ gs)
    by_behind None b again l = cc
    by_behind (Some more) b again l = let s = split_so more gs (again more l) in (behind_so g n more b s.0, s.1)
