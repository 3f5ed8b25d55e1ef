-- An input that is a proof, a line `=`, and a document behind it.
use Rattle.std.specs.Prelude.{◌≡◌, ◌≢◌, ◌<◌, ◌≤◌, ◌+◌, ◌⊎◌, ℕ, Bool, not, nat_eq, List, [], ◌++◌, length, codes}
use Rattle.std.specs.List.{list_all}
use Rattle.px_explain.specs.declared.node.ProofNode.{ProofNode}
use Rattle.px_explain.specs.Bounds.{AreSmall}
use Rattle.px_explain.specs.Texts.{text_of, BeginsWithLine}

-- the line between a proof and a document
abbrev pub end_line : List ℕ
end_line = codes "=\n"

abbrev pub BeginsWithEnd : List ℕ → Type 0
BeginsWithEnd text = (more : List ℕ) × (text ≡ end_line ++ more)

-- no line feed is among the bytes
abbrev pub has_no_feed : List ℕ → Bool
has_no_feed = list_all (λ b. not (nat_eq b 10))

-- The bytes are the lines of these nodes, at most 100,000, and the rest behind them.
pub record AreLines (nodes : List ProofNode) (rest bytes : List ℕ) : Type 0 where
  pub small : AreSmall nodes
  pub few : length nodes ≤ 100_000
  pub bytes_are : bytes ≡ text_of nodes ++ rest

-- how an input begins
pub data Opening : Type 0 where
  -- by a proof, and behind the line `=` is the document
  ProofThen : (nodes : List ProofNode) → (document : List ℕ) → Opening
  -- This line, from 1, is the first that is none of a proof, or the input ends before it.
  NoProofAt : (line : ℕ) → Opening
  -- Behind 100,000 lines of a proof stands another.
  TooManyLines : Opening

-- No further line of a proof stands behind so many, nor the line `=`.
abbrev pub IsAtFault : (lines : ℕ) → (rest : List ℕ) → Type 0
IsAtFault lines rest = (lines < 100_000) × (BeginsWithLine rest → ⊥) × (BeginsWithEnd rest → ⊥)

-- the input begins so
abbrev pub Opens : List ℕ → Opening → Type 0
Opens bytes (ProofThen nodes document) = AreLines nodes (end_line ++ document) bytes
Opens bytes (NoProofAt line) =
    (front : List ProofNode) × (rest : List ℕ) × AreLines front rest bytes × (line ≡ length front + 1) × (IsAtFault (length front) rest ⊎ (rest ≡ []))
Opens bytes TooManyLines =
    (front : List ProofNode) × (rest : List ℕ) × AreLines front rest bytes × (length front ≡ 100_000) × (rest ≢ []) × (BeginsWithEnd rest → ⊥)
