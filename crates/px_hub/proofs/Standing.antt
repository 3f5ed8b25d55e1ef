-- A bank that stands is among the pairs of a note of the desk.
use Rattle.std.proofs.Common.{◌≡◌, ℕ, zero, suc, ◌+◌, Bool, true, false, cond, eqb, List, [], ◌∷◌, ◌++◌, ap, ◌∙◌, arith, eq-eqb}
use mathlib.Core.Option.{some, some-injective}
use lib.ListN.{get_elem?}
use Rattle.px_rule.specs.declared.view.Stand.{Stand}
use Rattle.px_rule.specs.Steps.{standing}

pub standing_has : (base : ℕ) (bs : List Stand) (k : ℕ) (b : Stand) → get_elem? bs k ≡ some b → b.building ≡ 0 → (i : ℕ) × (get_elem? (standing base bs) i ≡ some (base + k, b.version))
standing_has base [] k b h none = absurd (cc)
standing_has base (c ∷ bs) zero b h none =
    let e : c ≡ b = some-injective c b h in
    let n : base ≡ base + 0 = omega arith in
    let free : eqb c.building 0 ≡ true = eq-eqb c.building 0 (ap (λ (s : Stand). s.building) e ∙ none) in
    (0, ap (λ (t : Bool). get_elem? (cond t ((base, c.version) ∷ standing (base + 1) bs) (standing (base + 1) bs)) 0) free ∙ (λ i. some (n i, (e i).version)))
standing_has base (c ∷ bs) (suc k) b h none =
    let r = standing_has (base + 1) bs k b h none in
    let n : (base + 1) + k ≡ base + suc k = omega arith in
    let there : get_elem? (standing (base + 1) bs) r.0 ≡ some (base + suc k, b.version) = r.1 ∙ (λ i. some (n i, b.version)) in
    elim (eqb c.building 0) as (λ t. (i : ℕ) × (get_elem? (cond t ((base, c.version) ∷ standing (base + 1) bs) (standing (base + 1) bs)) i ≡ some (base + suc k, b.version)))
    [ true ↦ (suc r.0, there) | false ↦ (r.0, there) ]

pub at_front : {A : Type 0} (xs ys : List A) (i : ℕ) (a : A) → get_elem? xs i ≡ some a → get_elem? (xs ++ ys) i ≡ some a
at_front [] ys i a e = absurd (cc)
at_front (x ∷ xs) ys zero a e = e
at_front (x ∷ xs) ys (suc i) a e = at_front xs ys i a e
