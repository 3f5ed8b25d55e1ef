-- The filter of an id in a list, and whether the list has a pair.
use Rattle.std.proofs.Common.{◌≡◌, ◌≢◌, ℕ, ◌<◌, ◌≤◌, Bool, true, false, cond, List, [], ◌∷◌, length, get_or, Option, Some, None, option_map, refl, ap, sym, ◌∙◌, arith, zero, suc, nat_eq, ◌||◌}
use Rattle.std.specs.Prelude.{find, is_some}
use Rattle.std.proofs.lemmas.Bool.{ne_eqb, eq-eqb}
use Rattle.px_xpath.specs.declared.numbered.Numbered.{Numbered}
use Rattle.px_xpath.specs.Histories.{Subscription, is_of}
use Rattle.px_xpath.specs.Subscribed.{subscription, subscriptions}
use Rattle.px_delta.specs.Lists.{has_id}

-- it stands behind all that have a lower id
pub found_at : (xs : List Numbered) (at id : ℕ) (n : Numbered) → at < length xs → ((d : Numbered) → n ≡ get_or xs at d) → n.id ≡ id →
    ((k : ℕ) (d : Numbered) → 0 ≤ k → k < at → (get_or xs k d).id < id) → Some (subscription n) ≡ find (is_of id) (subscriptions xs)
found_at [] at id n within is e lower = absurd (omega arith)
found_at (x ∷ xs) zero id n within is e lower = sym (rw (eq-eqb x.id id (ap (λ (y : Numbered). y.id) (sym (is x)) ∙ e)) (ap (λ (y : Numbered). Some (subscription y)) (sym (is x))))
found_at (x ∷ xs) (suc at) id n within is e lower =
    let less : x.id < id = lower 0 x (omega arith) (omega arith) in
    rw (ne_eqb x.id id (λ f. absurd (omega arith))) (found_at xs at id n (omega arith) is e (λ k d a b. lower (suc k) d (omega arith) (omega arith)))

-- no filter has the id
pub found_none : (xs : List Numbered) (id : ℕ) → ((k : ℕ) (d : Numbered) → k < length xs → (get_or xs k d).id ≢ id) → None ≡ find (is_of id) (subscriptions xs)
found_none [] id h = refl
found_none (x ∷ xs) id h = rw (ne_eqb x.id id (h 0 x (omega arith))) (found_none xs id (λ k d less. h (suc k) d (omega arith)))

-- a list has an id where it has a filter of it
pub told_by_find : {X : Type 0} (f : X → Subscription) (r : Option X) (xs : List Subscription) (id : ℕ) → option_map f r ≡ find (is_of id) xs → is_some r ≡ has_id xs id
told_by_find {X} f r xs id e = mapped r ∙ ap is_some e ∙ any xs
  where
    mapped : (r : Option X) → is_some r ≡ is_some (option_map f r)
    mapped None = refl
    mapped (Some n) = refl

    any : (xs : List Subscription) → is_some (find (is_of id) xs) ≡ has_id xs id
    any [] = refl
    any (x ∷ xs) = by_test (nat_eq x.id id) (any xs)
      where
        by_test : (b : Bool) → is_some (find (is_of id) xs) ≡ has_id xs id → is_some (cond b (Some x) (find (is_of id) xs)) ≡ (b || has_id xs id)
        by_test true h = refl
        by_test false h = h
