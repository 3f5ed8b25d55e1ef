-- Marks, and the numbers of steps that were come by in each way.
use Rattle.std.proofs.Common.{◌≡◌, ℕ, suc, ◌+◌, List, [], ◌∷◌, map, refl, arith, length}
use Rattle.px_call.specs.Counted.{Fate, found, computed, own, Mark, step_of, is_found, is_computed, is_own, times}

one_each : (t : Fate) → is_found t + is_computed t + is_own t ≡ 1
one_each found = refl
one_each computed = refl
one_each own = refl

-- as many marks as steps
pub add_up : (marks : List Mark) → times is_found marks + times is_computed marks + times is_own marks ≡ length (map step_of marks)
add_up [] = refl
add_up (m ∷ ms) =
    let r = add_up ms in
    let one = one_each m.fate in
    let a : ℕ = times is_found ms in
    let b : ℕ = times is_computed ms in
    let c : ℕ = times is_own ms in
    let d : ℕ = is_found m.fate in
    let e : ℕ = is_computed m.fate in
    let f : ℕ = is_own m.fate in
    let n : ℕ = length (map step_of ms) in
    let r' : a + b + c ≡ n = r in
    let one' : d + e + f ≡ 1 = one in
    let x : (a + d) + (b + e) + (c + f) ≡ suc n = omega arith in
    x
