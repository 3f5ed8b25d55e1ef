-- The jobs of a line: given by one giver, taken by several takers.
use Rattle.std.specs.Prelude.{◌≡◌, ℕ, ◌<◌, List, [], ◌∷◌, ◌++◌, length, eqb, Option, Some, None}
use Rattle.atomic_table.specs.Seated.{TableId}
use Rattle.px_rule.specs.Banks.{total, one_if}
use Rattle.px_line.specs.Lines.{Among}
use Rattle.px_jobs.specs.declared.job.Job.{Job}

module _ {L : Type 0} where
  -- the numbers are all below this one
  abbrev pub AllUnder : ℕ → List (Job L) → Type 0
  AllUnder n [] = Unit {0}
  AllUnder n (x ∷ xs) = (x.number < n) × AllUnder n xs

  abbrev pub AllOver : ℕ → List (Job L) → Type 0
  AllOver n [] = Unit {0}
  AllOver n (x ∷ xs) = (n < x.number) × AllOver n xs

  -- the numbers rise
  abbrev pub Rises : List (Job L) → Type 0
  Rises [] = Unit {0}
  Rises (x ∷ xs) = AllOver x.number xs × Rises xs

  -- how many jobs have this number
  abbrev pub of_number : ℕ → List (Job L) → ℕ
  of_number n xs = total (λ (y : Job L). one_if (eqb y.number n)) xs

  -- at one moment the last 1,024 jobs that were given all waited
  abbrev pub WasFull : List (Job L) → Type 0
  WasFull given = (taken : List (Job L)) × (waiting : List (Job L)) × (length waiting ≡ 1024) × (given ≡ taken ++ waiting)

  -- all jobs that were given were taken, each once, however they are weighed
  pub record AllTaken (given taken : List (Job L)) : Type 0 where
    pub rises : Rises given
    pub among : (x : Job L) → Among x taken → Among x given
    pub once : (h : Job L → ℕ) → total h given ≡ total h taken

-- what contracts see of a giver: the line, how many takers could still be made, and what it gave
pub record Giving (L : Type 0) : Type 0 where
  pub line : TableId
  pub parts : ℕ
  pub given : List (Job L)

-- what contracts see of a taker
pub record Taking (L : Type 0) : Type 0 where
  pub line : TableId
  pub taken : List (Job L)

-- what contracts see of the giver and the takers that it has taken in
pub record Ending (L : Type 0) : Type 0 where
  pub line : TableId
  pub parts : ℕ
  pub given : List (Job L)
  pub taken : List (Job L)

-- takers that have taken nothing
abbrev pub AreNew : {L : Type 0} → TableId → List (Taking L) → Type 0
AreNew line [] = Unit {0}
AreNew line (t ∷ ts) = (t ≡ record { line = line; taken = [] }) × AreNew line ts

abbrev pub or_nothing : {A : Type 0} → Option (List A) → List A
or_nothing None = []
or_nothing (Some xs) = xs
