-- A list of live filters that takes one change.
use Rattle.std.proofs.Common.{◌≡◌, ◌≢◌, ℕ, ◌+◌, ◌<◌, ◌≤◌, Bool, true, false, cond, not, List, [], ◌∷◌, ◌++◌, length, get_or, set, map, refl, ap, sym, subst, ◌∙◌, arith, zero, suc, inl, inr, if◌then◌else◌}
use Rattle.std.specs.Prelude.{All, filter, remove, ◌==◌}
use Rattle.std.specs.List.Sorted.{IsNonDecreasingBy}
use Rattle.std.proofs.lemmas.Bool.{cases_lt}
use Rattle.std.proofs.lemmas.Bool.Decides.{eqb_tells}
use Rattle.std.proofs.lemmas.List.{length-map, map-append}
use Rattle.px_text.specs.Sets.{Above, Rising}
use Rattle.px_text.proofs.RisingLists.{above_at, rising_le}
use Rattle.px_xpath.specs.declared.filter.Filter.{Filter}
use Rattle.px_xpath.specs.declared.numbered.Numbered.{Numbered}
use Rattle.px_xpath.specs.Filters.{Way}
use Rattle.px_xpath.specs.Histories.{Change, Adds, Drops, Replaces, Subscription, after}
use Rattle.px_xpath.specs.Subscribed.{subscription, subscriptions}
use Rattle.px_xpath.specs.Whole as whole
use Rattle.px_workload.specs.Listed.{AreInOrder}
use Rattle.px_workload.specs.Slots.{kept}

abbrev pub ids : List Subscription → List ℕ
ids = map (λ s. s.id)

abbrev pub id_of : Numbered → ℕ
id_of n = n.id

-- the id at a place
ids-at : (xs : List Numbered) (k : ℕ) (d : Numbered) → k < length xs → get_or (ids (subscriptions xs)) k 0 ≡ id_of (get_or xs k d)
ids-at [] k d h = absurd (omega arith)
ids-at (x ∷ xs) zero d h = refl
ids-at (x ∷ xs) (suc k) d h = ids-at xs k d (omega arith)

ids-length : (xs : List Numbered) → length (ids (subscriptions xs)) ≡ length xs
ids-length xs = length-map (subscriptions xs) (λ s. s.id) ∙ length-map xs subscription

-- the ids rise, so that one is found by halves
pub ids-rise : (xs : List Numbered) → AreInOrder xs → IsNonDecreasingBy id_of xs
ids-rise xs rising i j d le h =
    let long = ids-length xs in
    let below = rising_le (ids (subscriptions xs)) rising i j le (omega arith) in
    let low = ids-at xs i d (omega arith) in
    let high = ids-at xs j d h in omega arith

-- behind the first filter all ids are above its own
later : (x : Numbered) (xs : List Numbered) → AreInOrder (x ∷ xs) → (k : ℕ) (d : Numbered) → k < length xs → x.id < id_of (get_or xs k d)
later x xs rising k d h =
    let long = ids-length xs in
    let above = above_at x.id (ids (subscriptions xs)) rising.1 rising.2 k (omega arith) in
    let at = ids-at xs k d h in omega arith

-- a later filter has a greater id
greater : (xs : List Numbered) (i j : ℕ) (d : Numbered) → AreInOrder xs → i < j → j < length xs → id_of (get_or xs i d) < id_of (get_or xs j d)
greater [] i j d rising less h = absurd (omega arith)
greater (x ∷ xs) i zero d rising less h = absurd (omega arith)
greater (x ∷ xs) zero (suc j) d rising less h = later x xs rising j d (omega arith)
greater (x ∷ xs) (suc i) (suc j) d rising less h = greater xs i j d rising.2 (omega arith) (omega arith)

-- no filter has the id, if that at its place has another
pub none-at : (xs : List Numbered) (at id : ℕ) (n : Numbered) → AreInOrder xs → at < length xs → ((d : Numbered) → n ≡ get_or xs at d) → n.id ≢ id →
    ((k : ℕ) (d : Numbered) → 0 ≤ k → k < at → id_of (get_or xs k d) < id) → ((k : ℕ) (d : Numbered) → at ≤ k → k < length xs → id ≤ id_of (get_or xs k d)) →
    (k : ℕ) (d : Numbered) → k < length xs → id_of (get_or xs k d) ≢ id
none-at xs at id n rising within is other lower others k d h =
    elim (cases_lt k at) [
      | inl before ↦ (let below = lower k d (omega arith) before in λ e. absurd (omega arith))
      | inr from ↦
          elim (cases_lt at k) [
            | inl behind ↦
                (let more = greater xs at k d rising behind h in
                let least = others at d (omega arith) within in
                λ e. absurd (omega arith))
            | inr up_to ↦
                (let same : at ≡ k = omega arith in
                let P : ℕ → Type 0 = λ m. id_of (get_or xs m d) ≢ id in
                subst P same (λ e. other (ap id_of (is d) ∙ e)))
          ]
    ]

-- an id that no filter has changes nothing
pub none-dropped : (xs : List Numbered) (id : ℕ) → ((k : ℕ) (d : Numbered) → k < length xs → id_of (get_or xs k d) ≢ id) →
    subscriptions xs ≡ kept (Drops 0 id) (subscriptions xs)
none-dropped [] id h = refl
none-dropped (x ∷ xs) id h =
    let other = h 0 x (omega arith) in
    let is : (x.id == id) ≡ false = grind arith in
    rw is (ap (λ more. subscription x ∷ more) (none-dropped xs id (λ k d less. h (suc k) d (omega arith))))

pub none-replaced : (xs : List Numbered) (id : ℕ) (new : Filter) → ((k : ℕ) (d : Numbered) → k < length xs → id_of (get_or xs k d) ≢ id) →
    subscriptions xs ≡ kept (Replaces 0 id (whole.filter new)) (subscriptions xs)
none-replaced [] id new h = refl
none-replaced (x ∷ xs) id new h =
    let other = h 0 x (omega arith) in
    let is : (x.id == id) ≡ false = grind arith in
    rw is (ap (λ more. subscription x ∷ more) (none-replaced xs id new (λ k d less. h (suc k) d (omega arith))))

-- the filter at the place of an id is dropped
pub one-dropped : (xs : List Numbered) (at id : ℕ) → AreInOrder xs → at < length xs → ((d : Numbered) → id_of (get_or xs at d) ≡ id) →
    subscriptions (remove xs at) ≡ kept (Drops 0 id) (subscriptions xs)
one-dropped [] at id rising h is = absurd (omega arith)
one-dropped (x ∷ xs) zero id rising h is =
    let same : x.id ≡ id = is x in
    let test : (x.id == id) ≡ true = grind arith in
    rw test (none-dropped xs id (λ k d less. let above = later x xs rising k d less in λ e. absurd (omega arith)))
one-dropped (x ∷ xs) (suc k) id rising h is =
    let less : x.id < id_of (get_or xs k x) = later x xs rising k x (omega arith) in
    let found : id_of (get_or xs k x) ≡ id = is x in
    let test : (x.id == id) ≡ false = grind arith in
    rw test (ap (λ more. subscription x ∷ more) (one-dropped xs k id rising.2 (omega arith) is))

-- the filter at the place of an id is exchanged
pub one-replaced : (xs : List Numbered) (at id : ℕ) (new : Filter) → AreInOrder xs → at < length xs → ((d : Numbered) → id_of (get_or xs at d) ≡ id) →
    subscriptions (set xs at (record { id = id; filter = new })) ≡ kept (Replaces 0 id (whole.filter new)) (subscriptions xs)
one-replaced [] at id new rising h is = absurd (omega arith)
one-replaced (x ∷ xs) zero id new rising h is =
    let same : x.id ≡ id = is x in
    let test : (x.id == id) ≡ true = grind arith in
    rw test (ap (λ more. record { id = id; filter = whole.filter new } ∷ more) (none-replaced xs id new (λ k d less. let above = later x xs rising k d less in λ e. absurd (omega arith))))
one-replaced (x ∷ xs) (suc k) id new rising h is =
    let less : x.id < id_of (get_or xs k x) = later x xs rising k x (omega arith) in
    let found : id_of (get_or xs k x) ≡ id = is x in
    let test : (x.id == id) ≡ false = grind arith in
    rw test (ap (λ more. subscription x ∷ more) (one-replaced xs k id new rising.2 (omega arith) is))

-- what a change leaves rises
lower : (n m : ℕ) (l : List Subscription) → n < m → Above m (ids l) → Above n (ids l)
lower n m [] h b = tt
lower n m (t ∷ l) h b = let c = b in omega arith

above_if : (b : Bool) (n : ℕ) (s : Subscription) (rest : List Subscription) → n < s.id → Above n (ids rest) → Above n (ids (cond b (s ∷ rest) rest))
above_if true n s rest h a = h
above_if false n s rest h a = a

above_kept : (n : ℕ) (p : Subscription → Bool) (l : List Subscription) → Above n (ids l) → Rising (ids l) → Above n (ids (filter p l))
above_kept n p [] a r = tt
above_kept n p (s ∷ l) a r = above_if (p s) n s (filter p l) a (above_kept n p l (lower n s.id l a r.1) r.2)

rising_if : (b : Bool) (s : Subscription) (rest : List Subscription) → s.id < 1048576 → Above s.id (ids rest) → Rising (ids rest) → Rising (ids (cond b (s ∷ rest) rest))
rising_if true s rest h a r = (h, a, r)
rising_if false s rest h a r = r

rising_kept : (p : Subscription → Bool) (l : List Subscription) → Rising (ids l) → Rising (ids (filter p l))
rising_kept p [] r = tt
rising_kept p (s ∷ l) r = rising_if (p s) s (filter p l) r.0 (above_kept s.id p l r.1 r.2) (rising_kept p l r.2)

rising_front : (xs : List ℕ) (n : ℕ) → Rising (xs ++ n ∷ []) → Rising xs
rising_front [] n r = tt
rising_front (x ∷ []) n r = (r.0, tt, tt)
rising_front (x ∷ y ∷ xs) n r = (r.0, r.1, rising_front (y ∷ xs) n r.2)

ids-exchanged : (who id : ℕ) (new : Way) (l : List Subscription) → ids (kept (Replaces who id new) l) ≡ ids l
ids-exchanged who id new [] = refl
ids-exchanged who id new (s ∷ l) =
    let rest = ids-exchanged who id new l in
    elim (eqb_tells s.id id) [ inl same ↦ rw same.0 (ap (λ n. n ∷ ids (kept (Replaces who id new) l)) (sym same.1) ∙ ap (λ more. s.id ∷ more) rest) | inr other ↦ rw other.0 (ap (λ more. s.id ∷ more) rest) ]

pub after-rises : (version : ℕ) (l : List Subscription) (c : Change) → Rising (ids l ++ version ∷ []) → Rising (ids (after version l c))
after-rises version l (Adds who f) r =
    let P : List ℕ → Type 0 = Rising in subst P (sym (map-append (λ s. s.id) l (record { id = version; filter = f } ∷ []))) r
after-rises version l (Drops who id) r = rising_kept (λ s. not (s.id == id)) l (rising_front (ids l) version r)
after-rises version l (Replaces who id new) r =
    let P : List ℕ → Type 0 = Rising in subst P (sym (ids-exchanged who id new l)) (rising_front (ids l) version r)

-- the same of the list that has taken the change
pub taken-rises : (version : ℕ) (old new : List Numbered) (c : Change) → Rising (ids (subscriptions old) ++ version ∷ []) →
    subscriptions new ≡ after version (subscriptions old) c → AreInOrder new
taken-rises version old new c r e =
    let P : List Subscription → Type 0 = λ l. Rising (ids l) in subst P (sym e) (after-rises version (subscriptions old) c r)
