-- Where the others have seen all and made none of it, one pass has made it all.
use Rattle.std.proofs.Common.{◌≡◌, ℕ, suc, ◌<◌, inl, inr, Bool, true, false, cond, eqb, List, [], ◌∷◌, ◌++◌, get_or, length, refl, sym, ap, ◌∙◌, subst, arith}
use Rattle.std.specs.Prelude.{All}
use Rattle.std.proofs.lemmas.Bool.{eqb-true}
use Rattle.std.proofs.lemmas.List.{append-nil}
use Rattle.px_workload.specs.declared.change.Change.{Change}
use Rattle.px_rule.specs.Histories.{named}
use Rattle.px_hub.specs.Entries.{who_of}
use Rattle.px_hub.specs.Passes.{PassView}
use Rattle.px_hub.specs.Calls.{CaughtUp, Accepted, seen_of}
use Rattle.px_changer.specs.Alone.{AllBy, HoldEvery}

-- entries of which none names p
named_rest : (p : ℕ) (c : Change) (cs : List Change) → named who_of p (c ∷ cs) ≡ [] → (who_of c ≡ p → ⊥) × (named who_of p cs ≡ [])
named_rest p c cs none = on (eqb (who_of c) p) refl none
  where
    self : (n : ℕ) → eqb n n ≡ true
    self n = grind arith

    on : (b : Bool) → eqb (who_of c) p ≡ b → cond b (c ∷ named who_of p cs) (named who_of p cs) ≡ [] → (who_of c ≡ p → ⊥) × (named who_of p cs ≡ [])
    on true same e = absurd (cc)
    on false other e = (λ is. (let one = sym (ap (λ (n : ℕ). eqb n p) is ∙ self p) ∙ other in absurd (cc)), e)

pub named_front : (p : ℕ) (xs ys : List Change) → named who_of p (xs ++ ys) ≡ [] → named who_of p xs ≡ []
named_front p [] ys none = refl
named_front p (c ∷ xs) ys none =
    let parts = named_rest p c (xs ++ ys) none in
    let rest = named_front p xs ys parts.1 in
    on (eqb (who_of c) p) refl parts.0 rest
  where
    on : (b : Bool) → eqb (who_of c) p ≡ b → (who_of c ≡ p → ⊥) → named who_of p xs ≡ [] → cond b (c ∷ named who_of p xs) (named who_of p xs) ≡ []
    on true same other rest = absurd (other (eqb-true (who_of c) p same))
    on false same other rest = rest

-- of entries that all name p none is left out
own_none : (p : ℕ) (cs : List Change) → AllBy p cs → named who_of p cs ≡ [] → cs ≡ []
own_none p [] own none = refl
own_none p (c ∷ cs) own none = absurd ((named_rest p c cs none).0 own.0)

own_behind : (p : ℕ) (xs ys : List Change) → AllBy p (xs ++ ys) → AllBy p ys
own_behind p [] ys own = own
own_behind p (c ∷ xs) ys own = own_behind p xs ys own.1

-- so where changes of others came behind what a pass had seen, and all are its own, none came
pub none_came : (p : ℕ) (seen others : List Change) → AllBy p (seen ++ others) → named who_of p others ≡ [] → others ≡ []
none_came p seen others own none = own_none p others (own_behind p seen others own) none

-- no entry names one of the others
abbrev pub AreQuiet : List PassView → List Change → Type 0
AreQuiet others seen = (k : ℕ) (d : PassView) → k < length others → named who_of (get_or others k d).number seen ≡ []

pub all_by_first : (passes first : ℕ) (others : List PassView) (d : PassView) (seen : List Change) → All (λ c. who_of c < passes) seen → HoldEvery passes first others →
    AreQuiet others seen → AllBy first seen
all_by_first passes first others d [] below every quiet = tt
all_by_first passes first others d (c ∷ cs) below every quiet = (
  elim (every (who_of c) (below 0 c (omega arith))) as (λ _. who_of c ≡ first) [
    | inl same ↦ same
    | inr other ↦ absurd ((named_rest (get_or others other.0 d).number c cs (quiet other.0 d other.1)).0 (sym (other.2 d)))
  ],
  all_by_first passes first others d cs (λ i e lt. below (suc i) e (omega arith)) every (λ k e lt. (named_rest (get_or others k e).number c cs (quiet k e lt)).1),
)

own_front : (p : ℕ) (xs ys : List Change) → AllBy p (xs ++ ys) → AllBy p xs
own_front p [] ys own = tt
own_front p (c ∷ xs) ys own = (own.0, own_front p xs ys own.1)

-- a pass that has made all that it has seen has caught up with nothing
pub caught_alone : (v w : PassView) → CaughtUp v w → AllBy w.number (seen_of w) → seen_of w ≡ seen_of v
caught_alone v w c own =
    let came = c.came in
    let own_v = subst (λ (y : ℕ × List Change). AllBy y.0 y.1) (λ i. (came.number i, came.seen i)) own in
    let none = none_came v.number (seen_of v) came.others own_v came.of_others in
    came.seen ∙ ap (λ (xs : List Change). seen_of v ++ xs) none ∙ append-nil (seen_of v)

-- and what came before its own change is what it had seen
pub accepted_alone : (change : Change) (version : ℕ) (v w : PassView) → (c : Accepted change version v w) → AllBy w.number (seen_of w) → seen_of v ++ c.others ≡ seen_of v
accepted_alone change version v w c own =
    let own_v = subst (λ (y : ℕ × List Change). AllBy y.0 y.1) (λ i. (c.number i, c.seen i)) own in
    let front = own_front v.number (seen_of v ++ c.others) (change ∷ []) own_v in
    ap (λ (xs : List Change). seen_of v ++ xs) (none_came v.number (seen_of v) c.others front c.of_others) ∙ append-nil (seen_of v)
