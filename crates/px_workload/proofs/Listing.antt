-- What a table lists when it changes.
use Rattle.std.proofs.Common.{◌≡◌, ℕ, ◌+◌, ◌≤◌, ◌<◌, ◌-◌, Bor, true, false, not, List, [], ◌∷◌, ◌++◌, length, take, get_or, set, Option, Some, None, option_map, map, refl, ap, sym, ◌∙◌, arith, zero, suc, add-one, append-nil, subst, IsSome, IfSome, inl, inr, if◌then◌else◌}
use Rattle.std.specs.Prelude.{filter, find, ◌==◌}
use Rattle.std.specs.Option.{option_copied}
use Rattle.std.proofs.lemmas.Bool.{cases_lt}
use Rattle.std.proofs.lemmas.Grind.{common_steps}
use Rattle.std.proofs.lemmas.List.{length-take, map-append}
use Rattle.std.proofs.Math.Seq.{take-suc}
use Rattle.std.proofs.lemmas.List.Elements.{filter-append}
use Rattle.std.proofs.lemmas.List.Sums.{get_or-le-sum_by, sum_by-append, sum_by-cons, sum_by-set, sum_by_push}
use Rattle.px_xpath.specs.declared.filter.Filter.{Filter}
use Rattle.px_xpath.specs.Histories.{Change, Adds, Drops, Replaces, Subscription, is_of, IsLive, size, live_size}
use Rattle.px_xpath.specs.Whole as whole
use Rattle.px_workload.specs.Slots.{named, listed_one, listed_from, listed, slot_size, slots_size, kept}

-- one slot more
pub listed_from-grows : (version : ℕ) (slots : List (Option Filter)) (slot : Option Filter) (id : ℕ) → id ≡ version + length slots + 1 →
    listed_from version (slots ++ slot ∷ []) ≡ listed_from version slots ++ listed_one id slot
listed_from-grows version [] slot id e = let same : version + 1 ≡ id = omega arith in grind (arith, common_steps)
listed_from-grows version (s ∷ slots) slot id e =
    let rest = listed_from-grows (version + 1) slots slot id (omega arith) in grind (arith, common_steps)

-- no slot behind a version has an id up to it
pub find-above : (version : ℕ) (slots : List (Option Filter)) (id : ℕ) → id ≤ version → find (is_of id) (listed_from version slots) ≡ None
find-above version [] id h = refl
find-above version (None ∷ slots) id h = find-above (version + 1) slots id (omega arith)
find-above version (Some f ∷ slots) id h =
    let rest = find-above (version + 1) slots id (omega arith) in
    let other : (version + 1 == id) ≡ false = grind arith in
    rw other rest

-- the slot of an id is that of its version
pub find-at : (version : ℕ) (slots : List (Option Filter)) (k id : ℕ) → id ≡ version + k + 1 →
    find (is_of id) (listed_from version slots) ≡ option_map (named id) (get_or slots k None)
find-at version [] k id e = refl
find-at version (None ∷ slots) zero id e = find-above (version + 1) slots id (omega arith)
find-at version (Some f ∷ slots) zero id e =
    let same : version + 1 ≡ id = omega arith in
    let is : (version + 1 == id) ≡ true = grind arith in
    rw is (ap (λ n. Some (named n f)) same)
find-at version (None ∷ slots) (suc k) id e = find-at (version + 1) slots k id (omega arith)
find-at version (Some f ∷ slots) (suc k) id e =
    let rest = find-at (version + 1) slots k id (omega arith) in
    let other : (version + 1 == id) ≡ false = grind arith in
    rw other rest

abbrev without : ℕ → List Subscription → List Subscription
without id = filter (λ s. not (s.id == id))

abbrev exchanged : (id : ℕ) → Filter → List Subscription → List Subscription
exchanged id new = map (λ s. if s.id == id then named id new else s)

without-above : (version : ℕ) (slots : List (Option Filter)) (id : ℕ) → id ≤ version → without id (listed_from version slots) ≡ listed_from version slots
without-above version [] id h = refl
without-above version (None ∷ slots) id h = without-above (version + 1) slots id (omega arith)
without-above version (Some f ∷ slots) id h =
    let rest = without-above (version + 1) slots id (omega arith) in
    let other : (version + 1 == id) ≡ false = grind arith in
    rw other (ap (λ more. named (version + 1) f ∷ more) rest)

exchanged-above : (version : ℕ) (slots : List (Option Filter)) (id : ℕ) (new : Filter) → id ≤ version →
    exchanged id new (listed_from version slots) ≡ listed_from version slots
exchanged-above version [] id new h = refl
exchanged-above version (None ∷ slots) id new h = exchanged-above (version + 1) slots id new (omega arith)
exchanged-above version (Some f ∷ slots) id new h =
    let rest = exchanged-above (version + 1) slots id new (omega arith) in
    let other : (version + 1 == id) ≡ false = grind arith in
    rw other (ap (λ more. named (version + 1) f ∷ more) rest)

-- a slot that is emptied
pub without-at : (version : ℕ) (slots : List (Option Filter)) (k id : ℕ) → id ≡ version + k + 1 →
    without id (listed_from version slots) ≡ listed_from version (set slots k None)
without-at version [] k id e = refl
without-at version (None ∷ slots) zero id e = without-above (version + 1) slots id (omega arith)
without-at version (Some f ∷ slots) zero id e =
    let rest = without-above (version + 1) slots id (omega arith) in
    let is : (version + 1 == id) ≡ true = grind arith in
    rw is rest
without-at version (None ∷ slots) (suc k) id e = without-at (version + 1) slots k id (omega arith)
without-at version (Some f ∷ slots) (suc k) id e =
    let rest = without-at (version + 1) slots k id (omega arith) in
    let other : (version + 1 == id) ≡ false = grind arith in
    rw other (ap (λ more. named (version + 1) f ∷ more) rest)

-- a slot that is filled anew
pub exchanged-at : (version : ℕ) (slots : List (Option Filter)) (k id : ℕ) (new old : Filter) → id ≡ version + k + 1 → get_or slots k None ≡ Some old →
    exchanged id new (listed_from version slots) ≡ listed_from version (set slots k (Some new))
exchanged-at version [] k id new old e h = refl
exchanged-at version (None ∷ slots) zero id new old e h = absurd (cc)
exchanged-at version (Some f ∷ slots) zero id new old e h =
    let rest = exchanged-above (version + 1) slots id new (omega arith) in
    let same : id ≡ version + 1 = omega arith in
    let is : (version + 1 == id) ≡ true = grind arith in
    rw is (ap (λ n. named n new ∷ exchanged id new (listed_from (version + 1) slots)) same ∙ ap (λ more. named (version + 1) new ∷ more) rest)
exchanged-at version (None ∷ slots) (suc k) id new old e h = exchanged-at (version + 1) slots k id new old (omega arith) h
exchanged-at version (Some f ∷ slots) (suc k) id new old e h =
    let rest = exchanged-at (version + 1) slots k id new old (omega arith) h in
    let other : (version + 1 == id) ≡ false = grind arith in
    rw other (ap (λ more. named (version + 1) f ∷ more) rest)

-- the sizes of the slots are those of what is listed
listed_one-size : (id : ℕ) (slot : Option Filter) → live_size (listed_one id slot) ≡ slot_size slot
listed_one-size id None = refl
listed_one-size id (Some f) = grind arith

pub listed-size : (version : ℕ) (slots : List (Option Filter)) → live_size (listed_from version slots) ≡ slots_size slots
listed-size version [] = refl
listed-size version (slot ∷ slots) =
    sum_by-append (λ s. size s.filter) (listed_one (version + 1) slot) (listed_from (version + 1) slots)
    ∙ ap (λ n. n + live_size (listed_from (version + 1) slots)) (listed_one-size (version + 1) slot)
    ∙ ap (λ n. slot_size slot + n) (listed-size (version + 1) slots)
    ∙ sym (sum_by-cons slot_size slot slots)

-- a slot that is read, and what is found
pub found-slot : (slots : List (Option Filter)) (id : ℕ) (slot : Option Filter) → ¬ (id ≡ 0) → slot ≡ get_or slots (id - 1) None →
    option_map (named id) slot ≡ find (is_of id) (listed slots)
found-slot slots id slot n e = ap (option_map (named id)) e ∙ sym (find-at 0 slots (id - 1) id (omega arith))

pub named-copied : (id : ℕ) (r : Option (Bor Filter)) → option_map (λ f. named id f.now) r ≡ option_map (named id) (option_copied r)
named-copied id None = refl
named-copied id (Some f) = refl

-- a slot that was found holds a filter
some_slot : (id : ℕ) (slot : Option Filter) → IsSome (option_map (named id) slot) → (old : Filter) × (slot ≡ Some old)
some_slot id None h = absurd (cc)
some_slot id (Some f) h = (f, refl)

pub live-slot : (slots : List (Option Filter)) (id : ℕ) → ¬ (id ≡ 0) → IsLive id (listed slots) → (old : Filter) × (get_or slots (id - 1) None ≡ Some old)
live-slot slots id n h = some_slot id (get_or slots (id - 1) None) (rw (find-at 0 slots (id - 1) id (omega arith)) at h)

pub live-from-1 : (slots : List (Option Filter)) (id : ℕ) → IsLive id (listed slots) → 0 < id
live-from-1 slots zero h = let none = rw (find-above 0 slots 0 (omega arith)) at h in absurd (cc)
live-from-1 slots (suc k) h = omega arith

no_slot_past : (slots : List (Option Filter)) (k : ℕ) → length slots ≤ k → get_or slots k None ≡ None
no_slot_past [] k h = refl
no_slot_past (s ∷ slots) zero h = absurd (omega arith)
no_slot_past (s ∷ slots) (suc k) h = no_slot_past slots k (omega arith)

pub live-within : (slots : List (Option Filter)) (id : ℕ) → IsLive id (listed slots) → id ≤ length slots
live-within slots id h =
    let above_0 = live-from-1 slots id h in
    let slot = live-slot slots id (λ e. omega arith) h in
    elim (cases_lt (length slots) id) [ inl past ↦ absurd (let none = no_slot_past slots (id - 1) (omega arith) in let taken = slot.1 in cc) | inr within ↦ within ]

-- what a version lists that takes a filter away, and one that exchanges it
pub emptied : (slots : List (Option Filter)) (id : ℕ) → 0 < id → listed (set slots (id - 1) None ++ None ∷ []) ≡ kept (Drops 0 id) (listed slots)
emptied slots id h =
    listed_from-grows 0 (set slots (id - 1) None) None _ refl ∙ append-nil _ ∙ sym (without-at 0 slots (id - 1) id (omega arith))

pub refilled : (slots : List (Option Filter)) (id : ℕ) (new : Filter) → IsLive id (listed slots) →
    listed (set slots (id - 1) (Some new) ++ None ∷ []) ≡ kept (Replaces 0 id (whole.filter new)) (listed slots)
refilled slots id new h =
    let above_0 = live-from-1 slots id h in
    let slot = live-slot slots id (λ e. omega arith) h in
    listed_from-grows 0 (set slots (id - 1) (Some new)) None _ refl ∙ append-nil _ ∙ sym (exchanged-at 0 slots (id - 1) id new slot.0 (omega arith) slot.1)

-- their sizes
pub emptied-size : (slots : List (Option Filter)) (id : ℕ) → IsLive id (listed slots) → slots_size (set slots (id - 1) None) ≤ slots_size slots
emptied-size slots id h =
    let above_0 = live-from-1 slots id h in
    let within = live-within slots id h in
    let sums = sum_by-set slot_size slots (id - 1) None None (omega arith) in omega (arith, sums)

pub refilled-size : (slots : List (Option Filter)) (id : ℕ) (new : Filter) → IsLive id (listed slots) →
    slots_size (set slots (id - 1) (Some new)) ≡ live_size (kept (Replaces 0 id (whole.filter new)) (listed slots))
refilled-size slots id new h =
    let changed = set slots (id - 1) (Some new) in
    sym (listed-size 0 changed) ∙ ap live_size (sym (listed_from-grows 0 changed None _ refl ∙ append-nil _)) ∙ ap live_size (refilled slots id new h)

pub added-size : (slots : List (Option Filter)) (new : Filter) (id : ℕ) → live_size (listed slots ++ named id new ∷ []) ≡ slots_size slots + slot_size (Some new)
added-size slots new id = sum_by_push (λ s. size s.filter) (listed slots) (named id new) ∙ ap (λ n. n + slot_size (Some new)) (listed-size 0 slots)

-- the next slot of those that are walked through
pub listed-next : (slots : List (Option Filter)) (at id : ℕ) (slot : Option Filter) → at < length slots → slot ≡ get_or slots at slot → id ≡ at + 1 →
    listed (take (at + 1) slots) ≡ listed (take at slots) ++ listed_one id slot
listed-next slots at id slot h is e =
    ap (λ n. listed (take n slots)) (add-one at) ∙ ap listed (take-suc slots at slot h ∙ ap (λ s. take at slots ++ s ∷ []) (sym is))
    ∙ listed_from-grows 0 (take at slots) slot id (let shorter = length-take at slots in omega arith)

pub kept-append : (c : Change) (xs ys : List Subscription) → kept c (xs ++ ys) ≡ kept c xs ++ kept c ys
kept-append (Adds who f) xs ys = refl
kept-append (Drops who id) xs ys = filter-append _ xs ys
kept-append (Replaces who id new) xs ys = map-append _ xs ys

-- a filter in the table is no larger than the table
pub small-slot : (slots : List (Option Filter)) (k : ℕ) → slot_size (get_or slots k None) ≤ slots_size slots
small-slot slots k =
    elim (cases_lt k (length slots)) [ inl within ↦ get_or-le-sum_by slot_size slots k None within | inr past ↦ rw (no_slot_past slots k past) (omega arith) ]

pub small-copied : (r : Option (Bor Filter)) (slot : Option Filter) (n : ℕ) → option_copied r ≡ slot → slot_size slot ≤ n → IfSome r (λ f. size (whole.filter f.now) ≤ n)
small-copied None slot n e h = tt
small-copied (Some f) slot n e h = let P : Option Filter → Type 0 = λ s. slot_size s ≤ n in subst P (sym e) h

-- the sizes when the filter of an id is exchanged
abbrev found_size : Option Subscription → ℕ
found_size None = 0
found_size (Some s) = size s.filter

found_size-named : (id : ℕ) (slot : Option Filter) → found_size (option_map (named id) slot) ≡ slot_size slot
found_size-named id None = refl
found_size-named id (Some f) = refl

pub replaced-size : (slots : List (Option Filter)) (id : ℕ) (new old : Filter) → IsLive id (listed slots) → find (is_of id) (listed slots) ≡ Some (named id old) →
    live_size (kept (Replaces 0 id (whole.filter new)) (listed slots)) + size (whole.filter old) ≡ live_size (listed slots) + size (whole.filter new)
replaced-size slots id new old h found =
    let above_0 = live-from-1 slots id h in
    let within = live-within slots id h in
    let sums = sum_by-set slot_size slots (id - 1) (Some new) None (omega arith) in
    let was = sym (found_size-named id (get_or slots (id - 1) None)) ∙ ap found_size (sym (find-at 0 slots (id - 1) id (omega arith)) ∙ found) in
    omega (arith, sums, was, refilled-size slots id new h, listed-size 0 slots)
