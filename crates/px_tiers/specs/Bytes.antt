-- What the machines remember from one document to the next.
use Rattle.std.specs.Prelude.{ℕ, zero, suc, ◌≤◌, ◌/◌, List, [], ◌∷◌, sum_by}
use Rattle.px_machine.specs.Machines.{bytes_of, bound_of}
use Rattle.px_tiers.specs.declared.tier.Tier.{Tier}
use Rattle.px_tiers.specs.declared.tiers.Tiers.{Tiers}

-- so many times the half
abbrev pub halved : ℕ → (times : ℕ) → ℕ
halved n zero = n
halved n (suc times) = halved (n / 2) times

-- Each may remember half of what the older ones leave at most.
abbrev pub AreBounded : (left : ℕ) → List Tier → Type 0
AreBounded left [] = Unit {0}
AreBounded left (tier ∷ younger) = (bound_of tier.machine ≤ left / 2) × AreBounded (left / 2) younger

-- it remembers no more bytes than it may
abbrev pub IsWithin : Tier → Type 0
IsWithin tier = bytes_of tier.machine ≤ bound_of tier.machine

-- the bytes that all of them remember
abbrev pub remembered : Tiers → ℕ
remembered tiers = sum_by (λ tier. bytes_of tier.machine) tiers.tiers.items
