-- What a filter of a list leaves.
use Rattle.std.proofs.Common.{◌≡◌, ℕ, ◌+◌, ◌<◌, ◌≤◌, Bool, true, false, cond, List, [], ◌∷◌, length, sym, arith, map, subst}
use Rattle.std.specs.Prelude.{filter}
use Rattle.std.proofs.lemmas.List.{length-map}
use Rattle.std.proofs.lemmas.List.Sums.{sum_by-cons}
use Rattle.px_text.specs.Sets.{Above, Rising}
use Rattle.px_xpath.specs.declared.numbered.Numbered.{Numbered}
use Rattle.px_xpath.specs.Histories.{Subscription, size, live_size}
use Rattle.px_xpath.specs.Subscribed.{subscription, subscriptions}
use Rattle.px_workload.specs.Listed.{AreInOrder}
use Rattle.px_delta.specs.Lists.{without}
use Rattle.px_delta.specs.Sameness.{same_way}

above_less : (m n : ℕ) (ns : List ℕ) → m < n → Above n ns → Above m ns
above_less m n [] h a = tt
above_less m n (x ∷ ns) h a = omega arith

above_left : (n : ℕ) (p : Subscription → Bool) (xs : List Subscription) → Above n (map (λ s. s.id) xs) → Rising (map (λ s. s.id) xs) → Above n (map (λ s. s.id) (filter p xs))
above_left n p [] h r = tt
above_left n p (x ∷ xs) h r = by_test (p x) (above_left n p xs (above_less n x.id (map (λ s. s.id) xs) h r.1) r.2)
  where
    by_test : (b : Bool) → Above n (map (λ s. s.id) (filter p xs)) → Above n (map (λ s. s.id) (cond b (x ∷ filter p xs) (filter p xs)))
    by_test true i = h
    by_test false i = i

-- their ids rise
pub rising_left : (p : Subscription → Bool) (xs : List Subscription) → Rising (map (λ s. s.id) xs) → Rising (map (λ s. s.id) (filter p xs))
rising_left p [] r = tt
rising_left p (x ∷ xs) r = by_test (p x) (rising_left p xs r.2)
  where
    by_test : (b : Bool) → Rising (map (λ s. s.id) (filter p xs)) → Rising (map (λ s. s.id) (cond b (x ∷ filter p xs) (filter p xs)))
    by_test true i = (r.0, above_left x.id p xs r.1 r.2, i)
    by_test false i = i

-- and they are no larger than all
pub size_left : (p : Subscription → Bool) (xs : List Subscription) → live_size (filter p xs) ≤ live_size xs
size_left p [] = omega arith
size_left p (x ∷ xs) = by_test (p x) (size_left p xs)
  where
    by_test : (b : Bool) → live_size (filter p xs) ≤ live_size xs → live_size (cond b (x ∷ filter p xs) (filter p xs)) ≤ live_size (x ∷ xs)
    by_test true h = let a = sum_by-cons (λ s. size s.filter) x (filter p xs) in let b = sum_by-cons (λ s. size s.filter) x xs in omega arith
    by_test false h = let b = sum_by-cons (λ s. size s.filter) x xs in omega arith

abbrev IsRisingBelow : ℕ → List ℕ → Type 0
IsRisingBelow bound [] = Unit {0}
IsRisingBelow bound (x ∷ ns) = (x < bound) × Above x ns × IsRisingBelow bound ns

-- numbers below a bound that rise are no more than it
few_above : (n bound : ℕ) (ns : List ℕ) → n < bound → Above n ns → IsRisingBelow bound ns → length ns + n < bound
few_above n bound [] h a r = omega arith
few_above n bound (x ∷ ns) h a r = let rest = few_above x bound ns r.0 r.1 r.2 in let l : n < x = a in omega arith

few_rising : (bound : ℕ) (ns : List ℕ) → IsRisingBelow bound ns → length ns ≤ bound
few_rising bound [] r = omega arith
few_rising bound (x ∷ ns) r = let rest = few_above x bound ns r.0 r.1 r.2 in omega arith

few : (ns : List ℕ) → Rising ns → length ns ≤ 1_048_576
few ns r = few_rising 1_048_576 ns (below ns r)
  where
    below : (ns : List ℕ) → Rising ns → IsRisingBelow 1_048_576 ns
    below [] r = tt
    below (x ∷ ns) r = (r.0, r.1, below ns r.2)

pub few_listed : (xs : List Numbered) → AreInOrder xs → length xs ≤ 1_048_576
few_listed xs r = let some = few (map (λ s. s.id) (subscriptions xs)) r in let ids = length-map (subscriptions xs) (λ s. s.id) in let all = length-map xs subscription in omega arith

-- what is not in another list is in order
pub order_left : (pairs first second : List Numbered) → subscriptions pairs ≡ without same_way (subscriptions first) (subscriptions second) → AreInOrder first → AreInOrder pairs
order_left pairs first second e r = let P : List Subscription → Type 0 = λ xs. Rising (map (λ s. s.id) xs) in subst P (sym e) (rising_left _ (subscriptions first) r)
