-- What entering, claiming and zeroing a bank give.
use Rattle.std.specs.Prelude.{◌≡◌, ℕ, ◌+◌, ◌<◌, true, false, ◌∷◌}
use mathlib.Core.Option.{some}
use lib.ListN.{get_elem?}
use Rattle.px_rule.specs.declared.view.Place.TheVariants.{Outside, Inside}
use Rattle.px_rule.specs.declared.view.Stand.{Stand}
use Rattle.px_rule.specs.declared.view.Stay.{Stay}
use Rattle.px_rule.specs.declared.view.View.{View}
use Rattle.px_rule.specs.Words.{shows, version_of, count_of, packed}
use Rattle.px_rule.specs.Banks.{stand}
use Rattle.px_rule.specs.Steps.{restood}
use Rattle.px_banks.specs.declared.answers.Enter.{Enter}
use Rattle.px_banks.specs.declared.answers.Enter.TheVariants.{Entered, Gone}
use Rattle.px_banks.specs.declared.answers.Claim.{Claim}
use Rattle.px_banks.specs.declared.answers.Claim.TheVariants.{Claimed, Busy}

-- the pass is inside bank k at version n, where it found the word x
abbrev pub inside : ℕ → ℕ → ℕ → Stay → Stay
inside k n x v = record v { place = Inside k n; enters = v.enters + 1; found = x; stays = (k, n) ∷ v.stays }

-- it was counted in where it found x, and has left again
abbrev pub missed : ℕ → Stay → Stay
missed x v = record v { place = Outside; enters = v.enters + 1; found = x }

module _ {E : Type 0} where
  -- The pass is inside where the word found shows version n and no building, and is gone exactly where it does not. Where the bank was told to have stood at n, a word that does not shows a version above
  abbrev pub EnterGives : ℕ → ℕ → View E → View E → Enter → Type 0
  EnterGives k n v w Entered = (x : ℕ) × (w ≡ record v { stay = inside k n x v.stay }) × (shows n x ≡ true)
  EnterGives k n v w (Gone x) = (w ≡ record v { stay = missed x v.stay }) × (shows n x ≡ false) × ((i : ℕ) → get_elem? v.stay.stays i ≡ some (k, n) → n < version_of x)

  -- the desk took bank k for a new version
  abbrev pub taken : ℕ → ℕ → View E → View E
  taken k new v = restood k (stand new 1 0) v

  -- the desk keeps the word of bank k with calls inside, and for whom the claim was made
  abbrev pub noted : ℕ → ℕ → ℕ → View E → View E
  noted k new x v = record v { stay = record v.stay { busy = record { bank = k; new = new; word = x; pass = v.past.asker; loads = v.past.asker_loads } ∷ v.stay.busy } }

  -- The bank is taken only where the word found has count 0, and is busy exactly where it has a count above
  abbrev pub ClaimGives : ℕ → ℕ → ℕ → View E → View E → Claim → Type 0
  ClaimGives k old new v w Claimed = (x : ℕ) × (x ≡ packed old 0 0) × (count_of x ≡ 0) × (w ≡ taken k new v)
  ClaimGives k old new v w (Busy x) = (0 < count_of x) × (w ≡ noted k new x v)

  -- n places of bank k are zeroed
  abbrev pub IsCleared : ℕ → ℕ → View E → View E → Type 0
  IsCleared k n v w = (a : Stand) → get_elem? v.stay.stands k ≡ some a → w ≡ restood k (record a { zeroed = n }) v
