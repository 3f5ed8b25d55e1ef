-- Replies in their places.
use Rattle.std.proofs.Common.{◌≡◌, ◌≢◌, ℕ, zero, suc, ◌+◌, ◌<◌, ◌⊎◌, eqb, List, [], ◌∷◌, ◌++◌, map, length, refl, sym, ap, ◌∙◌, subst, arith, eq-eqb, ne_eqb, ⊎_elim, append_assoc, length-set}
use Rattle.std.specs.Prelude.{slice_get, slice_set, Option, Some, None}
use mathlib.Core.Logic.{dite, inl, inr}
use Rattle.std.proofs.lemmas.Option.{none-some, same_Some}
use native.Mathlib.Decide.{ℕ_discrete}
use Rattle.px_rule.specs.Banks.{one_if}
use Rattle.px_crew.specs.Drawn.{times}
use Rattle.px_crew.proofs.Parts.{total-append}
use Rattle.px_hub.specs.declared.reply.Reply.{Reply}
use Rattle.px_pool.specs.declared.worker.Answer.{Answer}
use Rattle.px_pool.specs.Working.{number_of}
use Rattle.px_pool.specs.Placing.{Among, AllWithin, Placed, IsFull}
use Rattle.px_pool.proofs.Turns.{map-more}

get_set : {A : Type 0} (xs : List A) (i : ℕ) (x : A) → i < length xs → slice_get (slice_set xs i x) i ≡ Some x
get_set [] i x low = absurd (omega arith)
get_set (y ∷ ys) zero x low = refl
get_set (y ∷ ys) (suc i) x low = get_set ys i x (omega arith)

get_other : {A : Type 0} (xs : List A) (i j : ℕ) (x : A) → j ≢ i → slice_get (slice_set xs i x) j ≡ slice_get xs j
get_other [] i j x apart = refl
get_other (y ∷ ys) zero zero x apart = absurd (apart refl)
get_other (y ∷ ys) zero (suc j) x apart = refl
get_other (y ∷ ys) (suc i) zero x apart = refl
get_other (y ∷ ys) (suc i) (suc j) x apart = get_other ys i j x (λ e. apart (ap suc e))

pub times_both : (x : ℕ) (xs ys : List ℕ) → times x (xs ++ ys) ≡ times x xs + times x ys
times_both x xs ys = total-append (λ (y : ℕ). one_if (eqb y x)) xs ys

times_more : (x : ℕ) (xs : List ℕ) (y : ℕ) → times x (xs ++ y ∷ []) ≡ times x xs + one_if (eqb y x)
times_more x xs y = let b = times_both x xs (y ∷ []) in omega arith

same_once : (n : ℕ) → one_if (eqb n n) ≡ 1
same_once n = ap one_if (eq-eqb n n refl)

pub counted : (a : Answer) (answers : List Answer) → Among a answers → 0 < times a.number (map number_of answers)
counted a [] at = absurd at
counted a (b ∷ bs) (inl is) = let one = same_once a.number in let e : one_if (eqb b.number a.number) ≡ one_if (eqb a.number a.number) = ap (λ (c : Answer). one_if (eqb c.number a.number)) (sym is) in omega arith
counted a (b ∷ bs) (inr at) = let r = counted a bs at in omega arith

among_more : (a : Answer) (answers : List Answer) (b : Answer) → Among a (answers ++ b ∷ []) → Among a answers ⊎ (a ≡ b)
among_more a [] b (inl is) = inr is
among_more a [] b (inr none) = absurd none
among_more a (c ∷ cs) b (inl is) = inl (inl is)
among_more a (c ∷ cs) b (inr at) = ⊎_elim (λ (x : Among a cs). inl (inr x)) (λ (x : a ≡ b). inr x) (among_more a cs b at)

none_is_not : {A : Type 0} (x : A) → Some (Some x) ≢ Some None
none_is_not x e = none-some x (sym (same_Some (Some x) None e))

pub placed_more : (slots : List (Option Reply)) (answers : List Answer) (a : Answer) → a.number < length slots → Placed slots answers → Placed (slice_set slots a.number (Some a.reply)) (answers ++ a ∷ [])
placed_more slots answers a low p = record {
  empty = λ i e. dite (ℕ_discrete i a.number)
      (λ same. absurd (filled_not a.reply (subst (λ (n : ℕ). slice_get (slice_set slots a.number (Some a.reply)) n ≡ Some None) same e) (get_set slots a.number (Some a.reply) low)))
      (λ apart. let was = p.empty i (sym (get_other slots a.number i (Some a.reply) apart) ∙ e) in let t = number_more i in let z : one_if (eqb a.number i) ≡ 0 = ap one_if (ne_eqb a.number i (λ q. apart (sym q))) in omega arith);
  there = λ b at once. ⊎_elim
      (λ (old : Among b answers).
      let c = counted b answers old in let t = number_more b.number in
      dite (ℕ_discrete b.number a.number)
      (λ same. let one : one_if (eqb a.number b.number) ≡ 1 = ap one_if (eq-eqb a.number b.number (sym same)) in absurd (omega arith))
      (λ apart. let z : one_if (eqb a.number b.number) ≡ 0 = ap one_if (ne_eqb a.number b.number (λ q. apart (sym q))) in
      get_other slots a.number b.number (Some a.reply) apart ∙ p.there b old (omega arith)))
      (λ (new : b ≡ a). subst (λ (x : Answer). slice_get (slice_set slots a.number (Some a.reply)) x.number ≡ Some (Some x.reply)) (sym new) (get_set slots a.number (Some a.reply) low))
      (among_more b answers a at);
}
  where
    number_more : (i : ℕ) → times i (map number_of (answers ++ a ∷ [])) ≡ times i (map number_of answers) + one_if (eqb a.number i)
    number_more i = ap (times i) (map-more answers a) ∙ times_more i (map number_of answers) a.number

    filled_not : (r : Reply) {o : Option (Option Reply)} → o ≡ Some None → o ≡ Some (Some r) → ⊥
    filled_not r e f = none_is_not r (sym f ∙ e)

-- each place is empty at first
pub nothing_placed : (slots : List (Option Reply)) → Placed slots []
nothing_placed slots = record { empty = λ i e. refl; there = λ a at once. absurd at }

-- where each number was drawn once, each place is filled
pub all_full : (slots : List (Option Reply)) (answers : List Answer) → Placed slots answers → ((i : ℕ) → i < length slots → times i (map number_of answers) ≡ 1) → IsFull slots
all_full slots answers p once = go slots (λ i low e. let z = p.empty i e in let o = once i low in omega arith)
  where
    go : (xs : List (Option Reply)) → ((i : ℕ) → i < length xs → slice_get xs i ≡ Some None → ⊥) → IsFull xs
    go [] apart = tt
    go (None ∷ xs) apart = absurd (apart 0 (omega arith) refl)
    go (Some r ∷ xs) apart = (tt, go xs (λ i low e. apart (suc i) (omega arith) e))

-- what stands at a place is the reply there
pub reply_at : (slots : List (Option Reply)) (replies : List Reply) (i : ℕ) (r : Reply) → slots ≡ map Some replies → slice_get slots i ≡ Some (Some r) → slice_get replies i ≡ Some r
reply_at slots replies i r is at = go replies i (sym (ap (λ xs. slice_get xs i) is) ∙ at)
  where
    go : (rs : List Reply) (i : ℕ) → slice_get (map Some rs) i ≡ Some (Some r) → slice_get rs i ≡ Some r
    go [] i e = absurd (none-some (Some r) e)
    go (x ∷ xs) zero e = same_Some (Some x) (Some r) e
    go (x ∷ xs) (suc i) e = go xs i e

pub place_goes_on : (all : List Answer) (first old new : List (Option Reply)) (done rest rest' : List Answer) (a : Answer)
    → (all ≡ done ++ rest) × (length old ≡ length first) × AllWithin (length old) rest × ((before : List Answer) → Placed first before → Placed old (before ++ done))
    → rest ≡ a ∷ rest' → new ≡ slice_set old a.number (Some a.reply)
    → (all ≡ done ++ a ∷ [] ++ rest') × (length new ≡ length first) × AllWithin (length new) rest' × ((before : List Answer) → Placed first before → Placed new (before ++ (done ++ a ∷ [])))
place_goes_on all first old new done rest rest' a was step put =
    let long : length new ≡ length old = ap length put ∙ length-set old a.number (Some a.reply) in
    let within : AllWithin (length old) (a ∷ rest') = subst (AllWithin (length old)) step was.2 in (
      was.0 ∙ ap (λ r. done ++ r) step ∙ sym (append_assoc done (a ∷ []) rest'),
      long ∙ was.1,
      subst (λ n. AllWithin n rest') (sym long) within.1,
      λ before p. subst (λ (xs : List Answer). Placed new xs) (append_assoc before done (a ∷ [])) (subst (λ (ss : List (Option Reply)). Placed ss ((before ++ done) ++ a ∷ [])) (sym put) (placed_more old (before ++ done) a within.0 (was.3 before p))),
    )
