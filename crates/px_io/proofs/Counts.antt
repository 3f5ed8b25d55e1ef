-- Counts that rise after they have not fallen.
use Rattle.std.proofs.Common.{◌≡◌, ◌<◌, ◌≤◌, ◌⊎◌, ℕ, inl, inr, arith}
use Rattle.std.proofs.Math.Nat.{eq-or-lt_of_le}
use Rattle.px_io.specs.Faults.{Rose, last_count}

-- a count at or below its last value
at_most_last : (a : ℕ) → (a ≡ last_count) ⊎ (a < last_count) → (c : ℕ) → c ≡ last_count → Rose a c
at_most_last a (inl last) c e = inr (last, e)
at_most_last a (inr below) c e = inl (omega arith)

-- a count that does not fall, and then rises, rose
pub rose_later : (a b c : ℕ) → a ≤ b → Rose b c → Rose a c
rose_later a b c h (inl rose) = inl (omega arith)
rose_later a b c h (inr last) =
    let below : a ≤ last_count = omega (arith, last.0) in at_most_last a (eq-or-lt_of_le below) c last.1
