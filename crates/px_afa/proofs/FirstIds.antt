-- How the filters of first states are found.
use Rattle.std.proofs.Common.{◌≡◌, ℕ, zero, suc, ◌+◌, ◌<◌, ◌||◌, Bool, true, false, cond, List, [], ◌∷◌, ◌++◌, length, take, get_or, Some, refl, sym, ◌∙◌, ap, arith, nat_eq}
use Rattle.std.specs.Prelude.{slice_get}
use Rattle.px_afa.specs.declared.state.State.{State}
use Rattle.px_afa.specs.declared.state.First.{First}
use Rattle.px_afa.specs.Truth.{state_at}
use Rattle.px_afa.specs.Building.{newest}
use Rattle.px_afa.specs.Accepting.{ArePaths}
use Rattle.px_afa.specs.Lists.{row, is_key}
use Rattle.px_afa.specs.Sets.{accept}
use Rattle.px_text.specs.Sets.{has}
use Rattle.px_afa.proofs.GuardTables.{newest_get}
use Rattle.std.proofs.Math.Bool.{or-false}

-- a filter at the end
accept-end : (firsts : List First) (f : First) (set : List ℕ) → accept (firsts ++ f ∷ []) set ≡ accept firsts set ++ cond (has set f.state) (f.id ∷ []) []
accept-end [] f set = refl
accept-end (g ∷ firsts) f set = go (has set g.state) (accept-end firsts f set)
  where
    go : (b : Bool) → accept (firsts ++ f ∷ []) set ≡ accept firsts set ++ cond (has set f.state) (f.id ∷ []) [] →
        cond b (g.id ∷ accept (firsts ++ f ∷ []) set) (accept (firsts ++ f ∷ []) set) ≡ cond b (g.id ∷ accept firsts set) (accept firsts set) ++ cond (has set f.state) (f.id ∷ []) []
    go true ih = ap (λ r. g.id ∷ r) ih
    go false ih = ih

take_next : (firsts : List First) (n : ℕ) (f d : First) → n < length firsts → f ≡ get_or firsts n d → take (suc n) firsts ≡ take n firsts ++ f ∷ []
take_next [] n f d less is = absurd (omega arith)
take_next (g ∷ firsts) zero f d less is = ap (λ z. z ∷ []) (sym is)
take_next (g ∷ firsts) (suc n) f d less is = ap (λ rest. g ∷ rest) (take_next firsts n f d (omega arith) is)

pub ids_next : (firsts : List First) (n m : ℕ) (f d : First) (old new : List (List ℕ)) → n < length firsts → f ≡ get_or firsts n d → m ≡ n + 1 →
    ((other : ℕ) → row new other ≡ row old other ++ cond (is_key (Some f.state) other) (f.id ∷ []) []) →
    ((state : ℕ) → row old state ≡ accept (take n firsts) (state ∷ [])) → (state : ℕ) → row new state ≡ accept (take m firsts) (state ∷ [])
ids_next firsts n m f d old new less is next put are state =
    let e : m ≡ suc n = omega arith in
    put state
    ∙ (ap (λ r. r ++ cond (nat_eq state f.state) (f.id ∷ []) []) (are state)
    ∙ (ap (λ b. accept (take n firsts) (state ∷ []) ++ cond b (f.id ∷ []) []) (sym (or-false (nat_eq state f.state)))
    ∙ (sym (accept-end (take n firsts) f (state ∷ []))
    ∙ (ap (λ fs. accept fs (state ∷ [])) (sym (take_next firsts n f d less is))
    ∙ ap (λ k. accept (take k firsts) (state ∷ [])) (sym e)))))

path-at : (states : List State) (firsts : List First) (n : ℕ) (f d : First) → ArePaths states firsts → n < length firsts → f ≡ get_or firsts n d → (s : State) × (state_at states f.state ≡ Some s)
path-at states [] n f d are less is = absurd (omega arith)
path-at states (g ∷ firsts) zero f d are less is = let p = are.0.3 in (_, ap (λ x. state_at states x.state) is ∙ p)
path-at states (g ∷ firsts) (suc n) f d are less is = path-at states firsts n f d are.1 (omega arith) is

there : (states : List State) (n : ℕ) (s : State) → slice_get states n ≡ Some s → n < length states
there [] n s e = cc
there (x ∷ states) zero s e = omega arith
there (x ∷ states) (suc n) s e = let ih = there states n s e in omega arith

pub path_within : (states : List State) (firsts : List First) (n count : ℕ) (f d : First) → ArePaths (newest states) firsts → n < length firsts → f ≡ get_or firsts n d → count ≡ length states → f.state < count
path_within states firsts n count f d are less is long =
    let at = path-at (newest states) firsts n f d are less is in
    let in_states = there states f.state at.0 (sym (newest_get states f.state) ∙ at.1) in
    omega arith
