-- Items in a line: each is given by one of several givers and taken by one of several takers.
use Rattle.std.specs.Prelude.{◌≡◌, ℕ, ◌+◌, ◌≤◌, ◌⊎◌, Bool, true, false, List, [], ◌∷◌, ◌++◌, length, nat_eq, if◌then◌else◌, Option, Some, None}
use mathlib.Core.Option.{some}
use lib.ListN.{get_elem?}
use Rattle.atomic_table.specs.Seated.{TableId}
use Rattle.px_rule.specs.Banks.{total}
use Rattle.px_line.specs.declared.rule.Known.{Known}

-- the number, where there is one
abbrev pub number_of : Option ℕ → ℕ
number_of None = 0
number_of (Some n) = n

abbrev pub HasNumber : Option ℕ → Type 0
HasNumber None = ⊥
HasNumber (Some n) = Unit {0}

module _ {T : Type 0} where
  abbrev pub known : (parts : ℕ) → (alone : Bool) → (gives makes : Option ℕ) → (given taken : List T) → (ended : List (ℕ × List T)) → Known T
  known parts alone gives makes given taken ended =
      record { parts = parts; alone = alone; gives = gives; makes = makes; given = given; taken = taken; ended = ended }

  -- a seat that gives and takes nothing
  abbrev pub nobody : Known T
  nobody = known 0 false None None [] [] []

  -- the first seat: it may make every giver, and takes alone
  abbrev pub first : Known T
  first = known 66 true None (Some 0) [] [] []

  -- a giver that has given nothing
  abbrev pub new_giver : ℕ → Known T
  new_giver f = known 0 false (Some f) None [] [] []

  -- a taker that has taken nothing
  abbrev pub new_taker : Known T
  new_taker = known 1 false None None [] [] []

  -- what the first seat knows once it has made the giver n
  abbrev pub made : ℕ → Known T → Known T
  made n v = known v.parts v.alone v.gives (Some (n + 1)) v.given v.taken v.ended

  -- what a seat knows of which a taker was cut off
  abbrev pub cut : (fewer : ℕ) → Known T → Known T
  cut fewer v = known fewer false v.gives v.makes v.given v.taken v.ended

  abbrev pub with_given : Known T → T → Known T
  with_given v x = known v.parts v.alone v.gives v.makes (v.given ++ x ∷ []) v.taken v.ended

  abbrev pub with_taken : Known T → T → Known T
  with_taken v x = known v.parts v.alone v.gives v.makes v.given (v.taken ++ x ∷ []) v.ended

  -- what a seat knows that took in a taker
  abbrev pub with_taker : Known T → Known T → Known T
  with_taker v w = known (v.parts + w.parts) false v.gives v.makes v.given (v.taken ++ w.taken) v.ended

  -- what a seat knows that took in the giver f at its end
  abbrev pub with_ended : Known T → ℕ → List T → Known T
  with_ended v f all = known v.parts v.alone v.gives v.makes v.given v.taken ((f, all) ∷ v.ended)

  -- what a seat may do is as before
  abbrev pub Keeps : Known T → Known T → Type 0
  Keeps v w = (w.parts ≡ v.parts) × (w.alone ≡ v.alone) × (w.gives ≡ v.gives) × (w.makes ≡ v.makes) × (w.ended ≡ v.ended)

  -- the items of one giver
  abbrev pub of : (T → ℕ) → ℕ → List T → List T
  of giver f [] = []
  of giver f (x ∷ xs) = if nat_eq (giver x) f then x ∷ of giver f xs else of giver f xs

  -- all that a giver gave that was taken in
  abbrev pub ended_of : ℕ → List (ℕ × List T) → Option (List T)
  ended_of f [] = None
  ended_of f (k ∷ ks) = if nat_eq k.0 f then Some k.1 else ended_of f ks

  abbrev pub Among : T → List T → Type 0
  Among x [] = ⊥
  Among x (y ∷ ys) = (x ≡ y) ⊎ Among x ys

  -- each item may stand behind those that its giver gave before it
  abbrev pub Follow : (T → ℕ) → (List T → T → Type 0) → List T → Type 0
  Follow giver Next all = (front : List T) (x : T) (back : List T) → all ≡ front ++ x ∷ back → Next (of giver (giver x) front) x

  -- What a seat knows is so: `all` were given, of which `taken` were taken.
  pub record Fits (giver : T → ℕ) (seat : ℕ → Option ℕ) (all taken : List T) (port : ℕ) (v : Known T) : Type 0 where
    pub gives : (f : ℕ) → v.gives ≡ Some f → (seat f ≡ Some port) × (v.given ≡ of giver f all)
    pub makes : (n f : ℕ) → v.makes ≡ Some n → n ≤ f → (seat f ≡ Some port) × (of giver f all ≡ [])
    pub ended : (f : ℕ) (its : List T) → ended_of f v.ended ≡ Some its → (seat f ≡ None) × (its ≡ of giver f all)
    pub idle : v.parts ≡ 0 → v.taken ≡ []
    pub among : (x : T) → Among x v.taken → Among x taken
    pub alone : v.alone ≡ true → (v.parts ≡ 66) × (v.taken ≡ taken)

  -- The items given are those taken and then those that wait. Each that was taken stands once, in the list of one seat. Each giver has one seat, or was taken in.
  pub record Standing (giver : T → ℕ) (Next : List T → T → Type 0) (items : List T) (views : List (Known T)) : Type 0 where
    pub taken : List T
    pub seat : ℕ → Option ℕ
    pub follow : Follow giver Next (taken ++ items)
    pub parts : total (λ (v : Known T). v.parts) views ≡ 66
    pub once : (h : T → ℕ) → total (λ (v : Known T). total h v.taken) views ≡ total h taken
    pub each : (port : ℕ) (v : Known T) → get_elem? views port ≡ some v → Fits giver seat (taken ++ items) taken port v

  -- what a giver learns of those that wait: they stand behind all others, and its own among them are the last that it gave
  abbrev pub Waits : (T → ℕ) → Known T → List T → Type 0
  Waits giver v items = (f : ℕ) → v.gives ≡ Some f → (taken : List T) × (v.given ≡ of giver f (taken ++ items))

  -- what a taker learns of those that wait: who has every part took all others, each once; who takes alone took them in this order
  pub record Learns (giver : T → ℕ) (Next : List T → T → Type 0) (v : Known T) (items : List T) : Type 0 where
    pub taken : List T
    pub follow : Follow giver Next (taken ++ items)
    pub ended : (f : ℕ) (its : List T) → ended_of f v.ended ≡ Some its → its ≡ of giver f (taken ++ items)
    pub among : (x : T) → Among x v.taken → Among x taken
    pub once : v.parts ≡ 66 → (h : T → ℕ) → total h v.taken ≡ total h taken
    pub alone : v.alone ≡ true → v.taken ≡ taken

  -- what a taker has learnt at one moment of those that waited then
  abbrev pub HasLearnt : (T → ℕ) → (List T → T → Type 0) → Known T → Type 0
  HasLearnt giver Next v = (items : List T) × Learns giver Next v items

  -- the item was taken; who takes alone knows that it may stand behind those of its giver that were taken before
  abbrev pub Takes : (T → ℕ) → (List T → T → Type 0) → Known T → T → Known T → Type 0
  Takes giver Next v x w = (w ≡ with_taken v x) × (v.alone ≡ true → Next (of giver (giver x) v.taken) x)

  -- at one moment so many items waited, and this was learnt of them
  abbrev pub Held : ℕ → (List T → Type 0) → Type 0
  Held n Fact = (items : List T) × (length items ≡ n) × Fact items

-- what contracts see of a line
pub record LineName : Type 0 where
  pub table : TableId
  pub capacity : ℕ

-- what contracts see of a seat
pub record Seated (T : Type 0) : Type 0 where
  pub table : TableId
  pub knows : Known T
