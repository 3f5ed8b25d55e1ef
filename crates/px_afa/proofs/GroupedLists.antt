-- How lists under numbers grow.
use Rattle.std.proofs.Common.{◌≡◌, ℕ, zero, suc, ◌+◌, ◌<◌, false, cond, List, [], ◌∷◌, ◌++◌, length, get_or, Vec, Option, Some, None, refl, sym, ◌∙◌, ap, arith, nat_eq, append-nil}
use Rattle.std.specs.Prelude.{slice_set, IfSome}
use Rattle.std.specs.Global.{Global}
use Rattle.std.proofs.lemmas.Bool.{eq-eqb, ne_eqb, eqb-true}
use Rattle.px_afa.specs.Lists.{lists_of, row, is_key}
use Rattle.std.specs.Cmp.{both_ways}

-- one list more, without numbers
pub row_more : (rows : List (Vec ℕ Global)) (empty : Vec ℕ Global) (key : ℕ) → empty.items ≡ [] → row (lists_of (rows ++ empty ∷ [])) key ≡ row (lists_of rows) key
row_more [] empty zero e = e
row_more [] empty (suc key) e = refl
row_more (r ∷ rows) empty zero e = refl
row_more (r ∷ rows) empty (suc key) e = row_more rows empty key e

pub lists-length : (rows : List (Vec ℕ Global)) → length (lists_of rows) ≡ length rows
lists-length [] = refl
lists-length (r ∷ rows) = ap suc (lists-length rows)

-- a number at the end of one list
row_put : (rows : List (Vec ℕ Global)) (key number : ℕ) (old new : Vec ℕ Global) → key < length rows → old ≡ get_or rows key old → new.items ≡ old.items ++ number ∷ [] → (other : ℕ) →
    row (lists_of (slice_set rows key new)) other ≡ row (lists_of rows) other ++ cond (nat_eq other key) (number ∷ []) []
row_put [] key number old new less at grown other = absurd (omega arith)
row_put (r ∷ rows) zero number old new less at grown zero = grown ∙ ap (λ v. v.items ++ number ∷ []) at
row_put (r ∷ rows) zero number old new less at grown (suc other) =
    let apart : nat_eq (suc other) 0 ≡ false = ne_eqb (suc other) 0 (λ e. omega arith) in
    rw apart (sym (append-nil (row (lists_of rows) other)))
row_put (r ∷ rows) (suc key) number old new less at grown zero =
    let apart : nat_eq 0 (suc key) ≡ false = ne_eqb 0 (suc key) (λ e. omega arith) in
    rw apart (sym (append-nil r.items))
row_put (r ∷ rows) (suc key) number old new less at grown (suc other) =
    let same : nat_eq (suc other) (suc key) ≡ nat_eq other key =
    both_ways _ _ (λ e. let f = eqb-true (suc other) (suc key) e in eq-eqb other key (omega arith)) (λ e. let f = eqb-true other key e in eq-eqb (suc other) (suc key) (omega arith)) in
    rw same (row_put rows key number old new (omega arith) at grown other)

pub put_at : (rows : List (Vec ℕ Global)) (lists : List (List ℕ)) (key : Option ℕ) (k number : ℕ) (old new : Vec ℕ Global) → key ≡ Some k → lists_of rows ≡ lists → k < length lists →
    old ≡ get_or rows k old → new.items ≡ old.items ++ number ∷ [] → (other : ℕ) →
    row (lists_of (slice_set rows k new)) other ≡ row lists other ++ cond (is_key key other) (number ∷ []) []
put_at rows lists key k number old new is are less at grown other =
    let long = lists-length rows in
    let same = ap length are in
    row_put rows k number old new (omega arith) at grown other
    ∙ (ap (λ ls. row ls other ++ cond (nat_eq other k) (number ∷ []) []) are ∙ ap (λ o. row lists other ++ cond (is_key o other) (number ∷ []) []) (sym is))

pub count_more : {X : Type 0} (xs : List X) (x : X) (n : ℕ) → length xs ≡ n → length (xs ++ x ∷ []) ≡ n + 1
count_more [] x n e = omega arith
count_more (y ∷ xs) x n e = let ih = count_more xs x (length xs) refl in omega arith

pub within_count : (key : Option ℕ) (a b : ℕ) → a ≡ b → IfSome key (λ k. k < a) → IfSome key (λ k. k < b)
within_count None a b e h = tt
within_count (Some k) a b e h = let less : k < a = h in omega arith
