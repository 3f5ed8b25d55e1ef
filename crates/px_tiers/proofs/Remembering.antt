-- What the machines may remember together.
use Rattle.std.proofs.Common.{◌≡◌, ℕ, zero, suc, ◌+◌, ◌<◌, ◌≤◌, List, [], ◌∷◌, ◌++◌, length, take, set, get_or, refl, sym, ap, ◌∙◌, subst, arith}
use Rattle.std.specs.Prelude.{◌/◌, All, sum_by}
use Rattle.std.proofs.Math.Nat.{div-mul-le_self}
use Rattle.std.proofs.Math.Seq.{take-append_seam}
use Rattle.std.proofs.lemmas.List.{take-set, length-set, get_or-set_same}
use Rattle.std.proofs.lemmas.List.Elements.{All-head, All-tail, All-more}
use Rattle.std.proofs.lemmas.List.Sums.{sum_by-cons}
use Rattle.px_machine.specs.Machines.{bytes_of, bound_of}
use Rattle.px_tiers.specs.declared.tier.Tier.{Tier}
use Rattle.px_tiers.specs.Bytes.{halved, AreBounded, IsWithin}

-- one half more, at the end
pub halved_last : (n times : ℕ) → halved n (suc times) ≡ halved n times / 2
halved_last n zero = refl
halved_last n (suc times) = halved_last (n / 2) times

-- together they remember what they may together
pub bounded_sum : (left : ℕ) (tiers : List Tier) → AreBounded left tiers → All IsWithin tiers → sum_by (λ tier. bytes_of tier.machine) tiers ≤ left
bounded_sum left [] b w = omega arith
bounded_sum left (t ∷ tiers) b w =
    let here : bytes_of t.machine ≤ bound_of t.machine = All-head IsWithin t tiers w in
    let share = b.0 in
    let rest = bounded_sum (left / 2) tiers b.1 (All-tail IsWithin t tiers w) in
    let halves = div-mul-le_self left 2 in
    let sum = sum_by-cons (λ (tier : Tier). bytes_of tier.machine) t tiers in omega arith

-- one machine has gone on
pub bounded_set : (left : ℕ) (tiers : List Tier) (i : ℕ) (d t : Tier) → bound_of t.machine ≡ bound_of (get_or tiers i d).machine → i < length tiers → AreBounded left tiers →
    AreBounded left (set tiers i t)
bounded_set left [] i d t same lt b = absurd (omega arith)
bounded_set left (x ∷ tiers) zero d t same lt b = let P : ℕ → Type 0 = λ n. n ≤ left / 2 in (subst P (sym same) b.0, b.1)
bounded_set left (x ∷ tiers) (suc i) d t same lt b = (b.0, bounded_set (left / 2) tiers i d t same (omega arith) b.1)

pub within_more : (tiers : List Tier) (i : ℕ) (t : Tier) → i < length tiers → All IsWithin (take i tiers) → IsWithin t → All IsWithin (take (i + 1) (set tiers i t))
within_more tiers i t lt all here =
    let long = length-set tiers i t in
    let P : List Tier → Type 0 = λ ts. All IsWithin ts in
    let Q : Tier → Type 0 = λ x. IsWithin x in
    All-more IsWithin (set tiers i t) i t (omega arith) (subst P (sym (take-set tiers i t)) all) (subst Q (sym (get_or-set_same tiers i t t lt)) here)

-- a new machine stands behind those that stay
pub bounded_put : (left kept : ℕ) (tiers : List Tier) (tier : Tier) → kept ≤ length tiers → bound_of tier.machine ≡ halved left (suc kept) → AreBounded left tiers →
    AreBounded left (take kept tiers ++ tier ∷ [])
bounded_put left zero tiers tier within share b = (omega (arith, share), tt)
bounded_put left (suc kept) [] tier within share b = absurd (omega arith)
bounded_put left (suc kept) (t ∷ tiers) tier within share b = (b.0, bounded_put (left / 2) kept tiers tier (omega arith) share b.1)

-- a list that was lent comes back whole
pub given_back : (tiers rest : List Tier) (n : ℕ) → n ≡ length tiers → take n (tiers ++ rest) ≡ tiers
given_back tiers rest n long = ap (λ (m : ℕ). take m (tiers ++ rest)) long ∙ take-append_seam tiers rest
