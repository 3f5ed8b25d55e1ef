-- What is written of a proof.
use Rattle.std.specs.Prelude.{◌≡◌, if◌then◌else◌, ℕ, zero, suc, Bool, List, [], ◌∷◌, ◌++◌, Result, Ok, Err}
use Rattle.px_text.specs.Nodes.{Place}
use Rattle.px_explain.specs.declared.node.ProofNode.{ProofNode}
use Rattle.px_explain.specs.declared.fault.ExplainFault.{ExplainFault}
use Rattle.px_explain.specs.declared.fault.ExplainFault.TheVariants.{TooMany, Memory}
use Rattle.px_explain.specs.Bounds.{Exceeds}

-- The nodes are written behind the old ones, or there are too many, whatever comes behind them.
abbrev pub Writes : List ProofNode → (old new : List ProofNode) → Result (Unit {0}) ExplainFault → Type 0
Writes nodes old new (Ok _) = new ≡ old ++ nodes
Writes nodes old new (Err TooMany) = (more : List ProofNode) → Exceeds (old ++ nodes ++ more)
Writes nodes old new (Err Memory) = Unit {0}

-- what comes of a search among candidates that are numbered as long as there is room for a number
pub data Searched : Type 0 where
  Found : Place → (room : ℕ) → Searched
  Past : (room : ℕ) → Searched
  Beyond : Searched

abbrev pub search_among : (Place → Bool) → ℕ → List Place → Searched
search_among passes room [] = Past room
search_among passes zero (y ∷ ys) = Beyond
search_among passes (suc room) (y ∷ ys) = if passes y then Found y room else search_among passes room ys
