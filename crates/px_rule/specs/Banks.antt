-- The second part of the rule: the words of banks, and the seats that are counted in.
use Rattle.std.specs.Prelude.{◌≡◌, ◌≢◌, ℕ, ◌+◌, ◌<◌, ◌≤◌, Bool, true, false, eqb, List, [], ◌∷◌, length, All}
use mathlib.Core.Option.{some}
use lib.ListN.{get_elem?}
use Rattle.px_rule.specs.declared.view.Place.{Place}
use Rattle.px_rule.specs.declared.view.Place.TheVariants.{Outside, Inside, Stray}
use Rattle.px_rule.specs.declared.view.Stand.{Stand}
use Rattle.px_rule.specs.declared.view.Busy.{Busy}
use Rattle.px_rule.specs.declared.view.Stay.{Stay}
use Rattle.px_rule.specs.Words.{packed, version_of, count_of}

abbrev pub total : {A : Type 0} → (A → ℕ) → List A → ℕ
total f [] = 0
total f (x ∷ xs) = f x + total f xs

abbrev pub one_if : Bool → ℕ
one_if true = 1
one_if false = 0

-- 1 where the place is in bank k
abbrev pub in_bank : ℕ → Place → ℕ
in_bank k Outside = 0
in_bank k (Inside j n) = one_if (eqb j k)
in_bank k (Stray j) = one_if (eqb j k)

-- how many views are inside bank k or stray in it
abbrev pub count : ℕ → List Stay → ℕ
count k views = total (λ (v : Stay). in_bank k v.place) views

-- Bank k has reached version n, and stands where that is its version
abbrev pub Reached : List Stand → ℕ × ℕ → Type 0
Reached stands s = (b : Stand) × (get_elem? stands s.0 ≡ some b) × (s.1 ≤ b.version) × (s.1 ≡ b.version → b.building ≡ 0)

-- a seat inside a bank finds it at its version, and not being built
abbrev pub Where : List Stand → Place → Type 0
Where stands Outside = Unit {0}
Where stands (Inside k n) = (b : Stand) × (get_elem? stands k ≡ some b) × (b.version ≡ n) × (b.building ≡ 0)
Where stands (Stray k) = k < length stands

-- a claim that failed found calls inside, at an earlier version
abbrev pub IsBusy : Busy → Type 0
IsBusy e = (0 < count_of e.word) × (version_of e.word < e.new)

-- What holds of seat i and what it knows of the banks
pub record StayFits (stands : List Stand) (desk i : ℕ) (v : Stay) : Type 0 where
  pub out : v.walks ≡ false → v.place ≡ Outside
  pub where_is : Where stands v.place
  pub stays : All (Reached stands) v.stays
  pub busy : All IsBusy v.busy
  pub keeper : v.keeps ≡ true → (i ≡ desk) × (v.stands ≡ stands)

-- `top` is the version word, `word` gives the word of each bank, `stands` the state of each, and `made` is the number of passes.
pub record Banks (top : ℕ) (word : ℕ → ℕ) (stands : List Stand) (desk made : ℕ) (views : List Stay) : Type 0 where
  pub words : (k : ℕ) (b : Stand) → get_elem? stands k ≡ some b → (word k ≡ packed b.version b.building (count k views)) × (b.version ≤ top) × (b.building ≤ 1)
  pub one : (j k : ℕ) (a b : Stand) → get_elem? stands j ≡ some a → get_elem? stands k ≡ some b → a.building ≡ 1 → b.building ≡ 1 → j ≡ k
  pub few : (total (λ (v : Stay). one_if v.walks) views ≡ made) × (made ≤ 65)
  pub each : (i : ℕ) (v : Stay) → get_elem? views i ≡ some v → StayFits stands desk i v

-- one word changed
abbrev pub Turned : (ℕ → ℕ) → (ℕ → ℕ) → ℕ → ℕ → Type 0
Turned word word' k n = (word' k ≡ n) × ((j : ℕ) → j ≢ k → word' j ≡ word j)

abbrev pub stand : ℕ → ℕ → ℕ → Stand
stand version building zeroed = record { version = version; building = building; zeroed = zeroed }
