-- What is gathered of the workers.
use Rattle.std.specs.Prelude.{◌≡◌, ℕ, ◌+◌, ◌<◌, ◌≤◌, List, [], ◌∷◌, ◌++◌, map, length, Option, Some, slice_get, IfOk, IsOkAnd, ◌⊎◌}
use Rattle.px_crew.specs.declared.rule.Hand.{Hand}
use Rattle.px_crew.specs.Drawn.{WordName, hand, times}
use Rattle.px_hub.specs.declared.reply.Reply.{Reply}
use Rattle.px_pool.specs.declared.worker.Answer.{Answer}
use Rattle.px_pool.specs.declared.worker.Worker.{Worker}
use Rattle.px_pool.specs.Working.{number_of}
use Rattle.px_pool.specs.Placing.{Among, AllWithin, Placed}

-- the drawer of a worker that brings these answers drew their numbers, and then one that no document has
pub record Brought (count : ℕ) (answers : List Answer) (h : Hand) : Type 0 where
  pub end : ℕ
  pub beyond : count ≤ end
  pub drew : h ≡ hand 1 (map number_of answers ++ end ∷ []) 1
  pub within : AllWithin count answers

abbrev pub HasBrought : WordName → ℕ → Worker → Type 0
HasBrought draws count worker = (worker.drawer.table ≡ draws.table) × IfOk worker.outcome (λ answers. Brought count answers.items worker.drawer.hand)

abbrev pub AllBrought : WordName → ℕ → List Worker → Type 0
AllBrought draws count [] = Unit {0}
AllBrought draws count (w ∷ ws) = HasBrought draws count w × AllBrought draws count ws

-- the workers bring these lists of answers
abbrev pub Brings : List Worker → List (List Answer) → Type 0
Brings [] [] = Unit {0}
Brings (w ∷ ws) (answers ∷ rest) = IsOkAnd w.outcome (λ a. a.items ≡ answers) × Brings ws rest
Brings _ _ = ⊥

abbrev pub joined : List (List Answer) → List Answer
joined [] = []
joined (xs ∷ xss) = xs ++ joined xss

-- These workers are taken in: the drawer drew what they drew, and their replies stand at their places
pub record Gathered (workers : List Worker) (whole : Hand) (slots : List (Option Reply)) : Type 0 where
  pub lists : List (List Answer)
  pub brings : Brings workers lists
  pub parts : whole.parts ≡ length workers + 1
  pub drew : (x : ℕ) → x < length slots → times x whole.drawn ≡ times x (map number_of (joined lists))
  pub beyond : (workers ≡ []) ⊎ (0 < whole.ends)
  pub placed : Placed slots (joined lists)

-- There is a reply to each document: that of the one answer that has its number
pub record AreReplies (count : ℕ) (workers : List Worker) (replies : List Reply) : Type 0 where
  pub lists : List (List Answer)
  pub brings : Brings workers lists
  pub long : length replies ≡ count
  pub once : (i : ℕ) → i < count → times i (map number_of (joined lists)) ≡ 1
  pub there : (a : Answer) → Among a (joined lists) → a.number < count → slice_get replies a.number ≡ Some a.reply
