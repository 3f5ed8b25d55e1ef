-- How large a proof may be.
use Rattle.std.specs.Prelude.{◌≡◌, ◌<◌, ◌⊎◌, ℕ, Bool, true, false, nat_lt, List, length}
use Rattle.std.specs.List.{list_any}
use Rattle.px_explain.specs.declared.node.ProofNode.{ProofNode}
use Rattle.px_explain.specs.declared.node.ProofNode.TheVariants.{Y, N, C, B, O}

-- whether a node has a number above this one
abbrev pub has_above : ℕ → ProofNode → Bool
has_above top (Y n) = nat_lt top n
has_above top (N n) = nat_lt top n
has_above top (C n) = nat_lt top n
has_above top (B n) = nat_lt top n
has_above top (O n) = nat_lt top n
has_above top _ = false

-- no number is above 32 bits
abbrev pub AreSmall : List ProofNode → Type 0
AreSmall nodes = list_any (has_above 4_294_967_295) nodes ≡ false

-- the nodes are too many, or one of them has a number that is too large
abbrev pub ExceedsBy : (most top : ℕ) → List ProofNode → Type 0
ExceedsBy most top nodes = (most < length nodes) ⊎ (list_any (has_above top) nodes ≡ true)

-- more than 100,000 nodes, or a number above 32 bits
pub record Exceeds (nodes : List ProofNode) : Type 0 where
  pub so : ExceedsBy 100_000 4_294_967_295 nodes
