-- What stands before the first space of a line and behind it.
use Rattle.std.proofs.Common.{◌≡◌, ℕ, zero, suc, ◌<◌, ◌≤◌, Bool, true, false, List, [], ◌∷◌, ◌==◌, length, take, drop, get_or, refl, ap, arith}
use Rattle.px_reader.specs.Lines.{until_space, behind_space}

-- no byte before place k is a space
abbrev pub NoSpace : List ℕ → ℕ → Type 0
NoSpace line k = (j : ℕ) → 0 ≤ j → j < k → (get_or line j 0 == 32) ≡ true → ⊥

head_not : (b : ℕ) (line : List ℕ) (k : ℕ) → NoSpace (b ∷ line) (suc k) → (b == 32) ≡ false
head_not b line k n = on (b == 32) refl
  where
    on : (t : Bool) → (b == 32) ≡ t → (b == 32) ≡ false
    on true e = absurd (n 0 (omega arith) (omega arith) e)
    on false e = e

tail_no : (b : ℕ) (line : List ℕ) (k : ℕ) → NoSpace (b ∷ line) (suc k) → NoSpace line k
tail_no b line k n j low high e = n (suc j) (omega arith) (omega arith) e

pub split_found : (line : List ℕ) (k : ℕ) → k < length line → NoSpace line k → (get_or line k 0 == 32) ≡ true →
    (until_space line ≡ take k line) × (behind_space line ≡ drop (suc k) line)
split_found [] k l n e = absurd (omega arith)
split_found (b ∷ line) zero l n e = (rw e refl, rw e refl)
split_found (b ∷ line) (suc k) l n e =
    let h = head_not b line k n in
    let r = split_found line k (omega arith) (tail_no b line k n) e in
    (rw h (ap (λ bs. b ∷ bs) r.0), rw h r.1)

pub split_none : (line : List ℕ) → NoSpace line (length line) → (until_space line ≡ line) × (behind_space line ≡ [])
split_none [] n = (refl, refl)
split_none (b ∷ line) n =
    let h = head_not b line (length line) n in
    let r = split_none line (tail_no b line (length line) n) in
    (rw h (ap (λ bs. b ∷ bs) r.0), rw h r.1)
