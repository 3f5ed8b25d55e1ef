-- What is written is never too much.
use Rattle.std.proofs.Common.{◌≡◌, ◌∙◌, Bool, true, false, List, [], ◌∷◌, ◌++◌, refl}
use Rattle.std.specs.Prelude.{◌||◌}
use Rattle.std.specs.List.{list_any}
use Rattle.std.proofs.lemmas.List.Folds.{list_any-append}
use Rattle.px_explain.specs.declared.node.ProofNode.{ProofNode}
use Rattle.px_explain.specs.Bounds.{has_above, AreSmall}

neither : (a b : Bool) → a ≡ false → b ≡ false → (a || (b || false)) ≡ false
neither true b h k = absurd (apart h)
  where
    apart : true ≡ false → ⊥
    apart e = cc
neither false true h k = absurd (apart k)
  where
    apart : true ≡ false → ⊥
    apart e = cc
neither false false h k = refl

-- a small node behind small ones
pub still_small : (nodes : List ProofNode) (node : ProofNode) → AreSmall nodes → has_above 4_294_967_295 node ≡ false → AreSmall (nodes ++ node ∷ [])
still_small nodes node small here =
    list_any-append (has_above 4_294_967_295) nodes (node ∷ []) ∙ neither (list_any (has_above 4_294_967_295) nodes) (has_above 4_294_967_295 node) small here
