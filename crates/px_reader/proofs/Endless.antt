-- A fault that shows whatever follows.
use Rattle.std.proofs.Common.{◌≡◌, ℕ, ◌+◌, [], List, ◌∷◌, ◌++◌, length, ap, ◌∙◌, arith, length-append}
use Rattle.px_reader.specs.declared.fault.DocKind.TheVariants.{Truncated}
use Rattle.px_reader.specs.Lines.{lines_of}
use Rattle.px_reader.specs.Verdicts.{HasVerdict, IsFaulty}
use Rattle.px_reader.proofs.LineCuts.{lines_ended}

-- one more line feed is one more line
one_more_line : (bytes : List ℕ) → length (lines_of (bytes ++ 10 ∷ 10 ∷ [])) ≡ length (lines_of (bytes ++ 10 ∷ [])) + 1
one_more_line bytes = ap length (lines_ended bytes (10 ∷ [])) ∙ length-append (lines_of (bytes ++ 10 ∷ [])) (lines_of (10 ∷ []))

-- no document is truncated whatever follows
pub never_truncated : (bytes : List ℕ) (line : ℕ) → ((rest : List ℕ) → HasVerdict (bytes ++ rest) (IsFaulty line Truncated)) → ⊥
never_truncated bytes line v =
    let one = (v (10 ∷ [])).2 in
    let two = (v (10 ∷ 10 ∷ [])).2 in
    absurd (omega (arith, one, two, one_more_line bytes))
