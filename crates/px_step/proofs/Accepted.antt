-- The accepted ids, by the states of a set.
use Rattle.std.proofs.Common.{◌≡◌, ℕ, zero, suc, ◌+◌, ◌<◌, ◌≤◌, Bool, true, false, ◌||◌, cond, List, [], ◌∷◌, ◌++◌, length, take, get_or, map, refl, sym, ◌∙◌, ap, arith, nat_eq, append_assoc, append-nil}
use Rattle.std.proofs.lemmas.List.Folds.{list_any-append}
use Rattle.std.proofs.lemmas.List.{take_all}
use Rattle.px_text.specs.Sets.{has, Above}
use Rattle.px_afa.specs.declared.state.First.{First}
use Rattle.px_afa.specs.Sets.{accept}
use Rattle.px_afa.specs.Sound.{AreRising}
use Rattle.px_step.proofs.Unions.{above_down}

-- the ids of each state of a list
abbrev pub all_ids : List First → List ℕ → List ℕ
all_ids firsts [] = []
all_ids firsts (s ∷ set) = accept firsts (s ∷ []) ++ all_ids firsts set

pub ids_more : (firsts : List First) (set : List ℕ) (i : ℕ) → i < length set → all_ids firsts (take (i + 1) set) ≡ all_ids firsts (take i set) ++ accept firsts (get_or set i 0 ∷ [])
ids_more firsts [] i h = absurd (omega arith)
ids_more firsts (s ∷ set) zero h = append-nil (accept firsts (s ∷ []))
ids_more firsts (s ∷ set) (suc i) h =
    let e : suc i + 1 ≡ suc (i + 1) = omega arith in
    rw e
    (ap (λ z. accept firsts (s ∷ []) ++ z) (ids_more firsts set i (omega arith))
    ∙ sym (append_assoc (accept firsts (s ∷ [])) (all_ids firsts (take i set)) (accept firsts (get_or set i 0 ∷ []))))

accept_none : (firsts : List First) → accept firsts [] ≡ []
accept_none [] = refl
accept_none (f ∷ firsts) = accept_none firsts

both_in : (x all one rest : Bool) → all ≡ (one || rest) → (x || all) ≡ ((x || one) || (x || rest))
both_in true all one rest h = refl
both_in false all one rest h = h

one_in : (x all one rest : Bool) → all ≡ (one || rest) → (x || all) ≡ ((x || one) || rest)
one_in true all one rest h = refl
one_in false all one rest h = h

rest_in : (x all one rest : Bool) → all ≡ (one || rest) → (x || all) ≡ (one || (x || rest))
rest_in true all true rest h = refl
rest_in true all false rest h = refl
rest_in false all one rest h = h

accept_either : (firsts : List First) (s : ℕ) (set : List ℕ) (n : ℕ) → has (accept firsts (s ∷ set)) n ≡ (has (accept firsts (s ∷ [])) n || has (accept firsts set) n)
accept_either [] s set n = refl
accept_either (f ∷ firsts) s set n = go (nat_eq s f.state) (has set f.state) (accept_either firsts s set n)
  where
    go : (a b : Bool) → has (accept firsts (s ∷ set)) n ≡ (has (accept firsts (s ∷ [])) n || has (accept firsts set) n) →
        has (cond (a || b) (f.id ∷ accept firsts (s ∷ set)) (accept firsts (s ∷ set))) n
        ≡ (has (cond (a || false) (f.id ∷ accept firsts (s ∷ [])) (accept firsts (s ∷ []))) n || has (cond b (f.id ∷ accept firsts set) (accept firsts set)) n)
    go true true ih = both_in (nat_eq f.id n) _ _ _ ih
    go true false ih = one_in (nat_eq f.id n) _ _ _ ih
    go false true ih = rest_in (nat_eq f.id n) _ _ _ ih
    go false false ih = ih

pub has-ids : (firsts : List First) (set : List ℕ) (n : ℕ) → has (all_ids firsts set) n ≡ has (accept firsts set) n
has-ids firsts [] n = ap (λ z. has z n) (sym (accept_none firsts))
has-ids firsts (s ∷ set) n =
    list_any-append (λ m. nat_eq m n) (accept firsts (s ∷ [])) (all_ids firsts set)
    ∙ (ap (λ b. has (accept firsts (s ∷ [])) n || b) (has-ids firsts set n) ∙ sym (accept_either firsts s set n))

-- the ids rise where those of all filters do
pub accept-rises : (firsts : List First) (set : List ℕ) → AreRising (map (λ (f : First). f.id) firsts) → AreRising (accept firsts set)
accept-rises [] set r = tt
accept-rises (f ∷ firsts) set r = go (has set f.state) (accept-rises firsts set r.1)
  where
    above : (x : ℕ) (fs : List First) → Above x (map (λ (f : First). f.id) fs) → AreRising (map (λ (f : First). f.id) fs) → Above x (accept fs set)
    above x [] a s = tt
    above x (g ∷ fs) a s = at (has set g.state) (above x fs (above_down x g.id (map (λ (f : First). f.id) fs) a s.0) s.1)
      where
        at : (b : Bool) → Above x (accept fs set) → Above x (cond b (g.id ∷ accept fs set) (accept fs set))
        at true h = a
        at false h = h

    go : (b : Bool) → AreRising (accept firsts set) → AreRising (cond b (f.id ∷ accept firsts set) (accept firsts set))
    go true s = (above f.id firsts r.0 r.1, s)
    go false s = s

-- one turn of the loop over states
pub ids_added : (firsts : List First) (set : List ℕ) (i : ℕ) (found old new : List ℕ) → i < length set → found ≡ accept firsts (get_or set i 0 ∷ []) → old ≡ all_ids firsts (take i set) → new ≡ old ++ found →
    new ≡ all_ids firsts (take (i + 1) set)
ids_added firsts set i found old new less is so_far added = rw (added, so_far, is) (sym (ids_more firsts set i less))

-- all ids
pub ids-taken : (firsts : List First) (set items ids : List ℕ) (i : ℕ) → items ≡ set → length items ≤ i → ids ≡ all_ids firsts (take i items) → (n : ℕ) → has ids n ≡ has (accept firsts set) n
ids-taken firsts set items ids i same all e n = ap (λ z. has z n) (e ∙ (ap (all_ids firsts) (take_all i items all) ∙ ap (all_ids firsts) same)) ∙ has-ids firsts set n
