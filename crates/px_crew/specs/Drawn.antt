-- Numbers that seats draw from one word, each once.
use Rattle.std.specs.Prelude.{◌≡◌, ℕ, ◌+◌, ◌-◌, ◌<◌, ◌≤◌, eqb, leb, suc, List, [], ◌∷◌, ◌++◌}
use mathlib.Core.Option.{some}
use lib.ListN.{get_elem?}
use Rattle.atomic_table.specs.Seated.{TableId}
use Rattle.atomic_table.specs.Table.{State}
use Rattle.px_rule.specs.Banks.{total, one_if}
use Rattle.px_crew.specs.declared.rule.Hand.{Hand}
use Rattle.px_crew.specs.declared.rule.Quota.{Quota}

abbrev pub hand : (parts : ℕ) → (drawn : List ℕ) → (ends : ℕ) → Hand
hand parts drawn ends = record { parts = parts; drawn = drawn; ends = ends }

abbrev pub quota_of : (limit parts : ℕ) → Quota
quota_of limit parts = record { limit = limit; parts = parts }

-- what contracts see of the word
pub record WordName : Type 0 where
  pub table : TableId
  pub quota : Quota

-- what contracts see of a drawer
pub record Seated : Type 0 where
  pub table : TableId
  pub hand : Hand

-- what a drawer knows of which another was cut off
abbrev pub one_part_less : Hand → Hand
one_part_less v = hand (v.parts - 1) v.drawn v.ends

-- what a drawer knows that took in another
abbrev pub both : Hand → Hand → Hand
both v w = hand (v.parts + w.parts) (v.drawn ++ w.drawn) (v.ends + w.ends)

-- how often x stands in the list
abbrev pub times : ℕ → List ℕ → ℕ
times x ys = total (λ (y : ℕ). one_if (eqb y x)) ys

abbrev pub once_below : ℕ → ℕ → ℕ
once_below x n = one_if (leb (suc x) n)

-- each is below n
abbrev pub AllBelow : ℕ → List ℕ → Type 0
AllBelow n [] = Unit {0}
AllBelow n (x ∷ xs) = (x < n) × AllBelow n xs

-- A seat draws at most one number for each of its parts that is not below the limit; one without parts has drawn nothing; and where one drew such a number, the word is above the limit.
abbrev pub Fits : (limit word : ℕ) → Hand → Type 0
Fits limit word v = (v.ends ≤ v.parts) × (v.parts ≡ 0 → v.drawn ≡ []) × (0 < v.ends → limit < word)

-- Each number below the word was drawn once, and no other.
pub record Given (quota : Quota) (s : State (Unit {0}) Hand) : Type 0 where
  pub word : ℕ
  pub words : s.words ≡ word ∷ []
  pub parts : total (λ (v : Hand). v.parts) s.views ≡ quota.parts
  pub once : (x : ℕ) → total (λ (v : Hand). times x v.drawn) s.views ≡ once_below x word
  pub bound : word ≤ quota.limit + total (λ (v : Hand). v.ends) s.views
  pub each : (i : ℕ) (v : Hand) → get_elem? s.views i ≡ some v → Fits quota.limit word v

-- the number was drawn, and is above all that were drawn before
pub record Drew (quota : Quota) (v : Hand) (n : ℕ) (w : Hand) : Type 0 where
  pub hand_is : w ≡ hand v.parts (v.drawn ++ n ∷ []) (v.ends + one_if (leb quota.limit n))
  pub above : AllBelow n v.drawn

-- who has every part learns that it drew each number below the word once, and who drew a number that is not below the limit that the word is above it
abbrev pub Learnt : Quota → Hand → ℕ → Hand → Type 0
Learnt quota v n w = (w ≡ v) × (v.parts ≡ quota.parts → (x : ℕ) → times x v.drawn ≡ once_below x n) × (0 < v.ends → quota.limit < n)

-- a drawer of this word that has not met the limit
abbrev pub MayDraw : WordName → Seated → Type 0
MayDraw draws drawer = (drawer.table ≡ draws.table) × (0 < drawer.hand.parts) × (drawer.hand.ends ≡ 0)
