-- What a batch of documents answers, and what it makes of its passes.
use Rattle.std.specs.Prelude.{◌≡◌, ℕ, ◌<◌, List, [], ◌∷◌, ◌++◌, length, Ok, Some, slice_get, slice_index_or}
use Rattle.px_reader.specs.declared.doc.Doc.{Doc}
use Rattle.px_reader.specs.Documents.{content}
use Rattle.px_rule.specs.declared.shape.Shape.{Shape}
use Rattle.px_crew.specs.Drawn.{times}
use Rattle.px_hub.specs.declared.reply.Reply.{Reply}
use Rattle.px_hub.specs.Passes.{PassView}
use Rattle.px_hub.specs.Replying.{Filters, Stays}

-- Each pass has seen and made the same changes, has the same program and bank or lack of one, and is in no bank
pub record AllStay (vs ws : List PassView) : Type 0 where
  pub as_many : length ws ≡ length vs
  pub each : (k : ℕ) (d : PassView) → k < length vs → Stays (slice_index_or vs k d) (slice_index_or ws k d)

-- A call that filters the document of this number gives the reply. v is the pass before it, and w the pass after it
pub record Answers (z : Shape) (docs : List Doc) (v : PassView) (number : ℕ) (reply : Reply) (w : PassView) : Type 0 where
  pub doc : Doc
  pub at : slice_get docs number ≡ Some doc
  pub filters : Filters z v w (content doc) (Ok reply)

module _ (z : Shape) (docs : List Doc) (replies : List Reply) where
  -- The calls of one pass from v to w, one behind the other: each gives the reply that stands at the number of its document
  abbrev pub AnswersAll : PassView → List ℕ → PassView → Type 0
  AnswersAll v [] w = w ≡ v
  AnswersAll v (n ∷ ns) w = (u : PassView) × (reply : Reply) × (slice_get replies n ≡ Some reply) × Answers z docs v n reply u × AnswersAll u ns w

  -- the same of each pass and its numbers
  abbrev pub EachAnswers : List PassView → List (List ℕ) → List PassView → Type 0
  EachAnswers [] [] [] = Unit {0}
  EachAnswers (v ∷ vs) (ns ∷ nss) (w ∷ ws) = AnswersAll v ns w × EachAnswers vs nss ws
  EachAnswers _ _ _ = ⊥

abbrev pub all_numbers : List (List ℕ) → List ℕ
all_numbers [] = []
all_numbers (ns ∷ nss) = ns ++ all_numbers nss

-- Each document is answered once, by a call of one of the passes, and its reply stands at its number. `numbers` has for each pass the documents that it answered
pub record Batched (z : Shape) (docs : List Doc) (vs : List PassView) (replies : List Reply) (ws : List PassView) : Type 0 where
  pub numbers : List (List ℕ)
  pub answers : EachAnswers z docs replies vs numbers ws
  pub once : (i : ℕ) → i < length docs → times i (all_numbers numbers) ≡ 1
  pub long : length replies ≡ length docs
