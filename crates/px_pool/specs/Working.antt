-- What the workers of a batch do.
use Rattle.std.specs.Prelude.{◌≡◌, ℕ, ◌≤◌, false, List, [], ◌∷◌, ◌++◌, map, length, IfOk}
use Rattle.px_reader.specs.declared.doc.Doc.{Doc}
use Rattle.px_rule.specs.declared.shape.Shape.{Shape}
use Rattle.px_crew.specs.declared.rule.Hand.{Hand}
use Rattle.px_crew.specs.Drawn.{WordName, Seated, AllBelow, hand}
use Rattle.px_hub.specs.Passes.{PassView}
use Rattle.px_hub.specs.Replying.{Stays}
use Rattle.px_pool.specs.declared.worker.Answer.{Answer}
use Rattle.px_pool.specs.declared.worker.Worker.{Worker}
use Rattle.px_pool.specs.Batches.{Answers}

abbrev pub number_of : Answer → ℕ
number_of a = a.number

-- what is as it was, however a worker ends
pub record Left (v : PassView) (a : Seated) (w : PassView) (b : Seated) : Type 0 where
  pub stays : Stays v w
  pub table : b.table ≡ a.table

module _ (z : Shape) (docs : List Doc) where
  -- The calls of one pass from v to w, one behind the other: each gives its answer
  abbrev pub Calls : PassView → List Answer → PassView → Type 0
  Calls v [] w = w ≡ v
  Calls v (a ∷ rest) w = (u : PassView) × Answers z docs v a.number a.reply u × Calls u rest w

  -- The drawer has drawn the numbers of the answers, each of which a call of the pass gave
  pub record Going (draws : WordName) (v : PassView) (a : Seated) (answers : List Answer) (w : PassView) (b : Seated) : Type 0 where
    pub left : Left v a w b
    pub of_draws : b.table ≡ draws.table
    pub drew : b.hand ≡ hand 1 (map number_of answers) 0
    pub calls : Calls v answers w

  -- The pass has answered the documents of the numbers that were drawn, and the last number that was drawn is that of none
  pub record Done (v : PassView) (answers : List Answer) (w : PassView) (h : Hand) : Type 0 where
    pub end : ℕ
    pub beyond : length docs ≤ end
    pub drew : h ≡ hand 1 (map number_of answers ++ end ∷ []) 1
    pub calls : Calls v answers w

  -- a worker has worked with a pass to the end of the numbers, or met want of memory
  pub record Worked (v : PassView) (a : Worker) (w : PassView) (b : Worker) : Type 0 where
    pub left : Left v a.drawer w b.drawer
    pub done : IfOk b.outcome (λ answers. Done v answers.items w b.drawer.hand)

  -- the same where no call is open on the pass
  abbrev pub WorkedIfClosed : PassView → Worker → PassView → Worker → Type 0
  WorkedIfClosed v a w b = v.is_open ≡ false → Worked v a w b

-- a worker that has drawn nothing
abbrev pub IsFresh : WordName → Worker → Type 0
IsFresh draws worker = (worker.drawer.table ≡ draws.table) × (worker.drawer.hand ≡ hand 1 [] 0) × IfOk worker.outcome (λ answers. answers.items ≡ [])

-- a number that is above all that were drawn is at least this one
abbrev pub IsLeast : ℕ → List ℕ → Type 0
IsLeast least drawn = (n : ℕ) → AllBelow n drawn → least ≤ n
