-- The text of a proof.
use Rattle.std.specs.Prelude.{◌≡◌, ◌≢◌, ◌<◌, ◌+◌, ℕ, false, List, [], ◌++◌, length, codes, decimal, flat_map}
use Rattle.px_explain.specs.declared.node.ProofNode.{ProofNode}
use Rattle.px_explain.specs.declared.node.ProofNode.TheVariants.{Y, N, T, C, R, V, A, B, O, P, Bang}
use Rattle.px_explain.specs.Bounds.{has_above, AreSmall}

-- the words of a node
abbrev pub words : ProofNode → List ℕ
words (Y n) = codes "y " ++ decimal n
words (N n) = codes "n " ++ decimal n
words T = codes "t"
words (C n) = codes "c " ++ decimal n
words R = codes "r"
words V = codes "v"
words A = codes "a"
words (B n) = codes "b " ++ decimal n
words (O n) = codes "o " ++ decimal n
words P = codes "p"
words Bang = codes "!"

abbrev pub line : ProofNode → List ℕ
line node = words node ++ codes "\n"

abbrev pub text_of : List ProofNode → List ℕ
text_of nodes = flat_map line nodes

-- the text has a line at its front: a node with a number that may stand there
abbrev pub BeginsWithLine : List ℕ → Type 0
BeginsWithLine text = (node : ProofNode) × (more : List ℕ) × (has_above 4_294_967_295 node ≡ false) × (text ≡ line node ++ more)

-- behind so many lines of nodes something is left, which begins with no line
abbrev pub IsNoProofAt : ℕ → List ℕ → Type 0
IsNoProofAt number text =
    (front : List ProofNode) × (rest : List ℕ) × AreSmall front × (number ≡ length front + 1) × (length front < 100_000) × (text ≡ text_of front ++ rest)
    × (rest ≢ []) × (BeginsWithLine rest → ⊥)

-- behind 100,000 lines of nodes something is left
abbrev pub HasTooMany : List ℕ → Type 0
HasTooMany text = (front : List ProofNode) × (rest : List ℕ) × AreSmall front × (length front ≡ 100_000) × (text ≡ text_of front ++ rest) × (rest ≢ [])
