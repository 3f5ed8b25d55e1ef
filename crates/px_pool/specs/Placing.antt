-- How replies are put into their places.
use Rattle.std.specs.Prelude.{◌≡◌, ℕ, ◌<◌, List, [], ◌∷◌, map, Option, Some, None, slice_get, ◌⊎◌}
use Rattle.px_crew.specs.Drawn.{times}
use Rattle.px_hub.specs.declared.reply.Reply.{Reply}
use Rattle.px_pool.specs.declared.worker.Answer.{Answer}
use Rattle.px_pool.specs.Working.{number_of}

abbrev pub Among : Answer → List Answer → Type 0
Among a [] = ⊥
Among a (b ∷ bs) = (a ≡ b) ⊎ Among a bs

abbrev pub AllWithin : ℕ → List Answer → Type 0
AllWithin n [] = Unit {0}
AllWithin n (a ∷ rest) = (a.number < n) × AllWithin n rest

-- A place is empty where none of the answers has its number. Where one has it and no other, its reply stands there
pub record Placed (slots : List (Option Reply)) (answers : List Answer) : Type 0 where
  pub empty : (i : ℕ) → slice_get slots i ≡ Some None → times i (map number_of answers) ≡ 0
  pub there : (a : Answer) → Among a answers → times a.number (map number_of answers) ≡ 1 → slice_get slots a.number ≡ Some (Some a.reply)

abbrev pub Filled : Option Reply → Type 0
Filled None = ⊥
Filled (Some reply) = Unit {0}

abbrev pub IsFull : List (Option Reply) → Type 0
IsFull [] = Unit {0}
IsFull (slot ∷ slots) = Filled slot × IsFull slots
