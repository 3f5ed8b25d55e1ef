-- The last byte says whether a carriage return goes.
use Rattle.std.proofs.Common.{◌≡◌, ◌++◌, ◌∷◌, [], List, ℕ, ◌-◌, ◌<◌, length, get_or, refl, sym, arith}
use Rattle.px_reader.specs.Lines.{without_end}
use Rattle.px_reader.proofs.LineCuts.{without_end-no_cr, without_end-last_cr}
use Rattle.px_reader.proofs.cuts.without_return.Goals as goal

pub returns-in-13 : goal.returns-in-13
returns-in-13 c = sym (without_end-last_cr c.args.content.now (omega arith) (omega arith))

no_return : (content : List ℕ) → (0 < length content → get_or content (length content - 1) 0 ≡ 13 → ⊥) → content ≡ without_end (content ++ 10 ∷ [])
no_return [] n = refl
no_return (b ∷ content) n = sym (without_end-no_cr (b ∷ content) (n (omega arith)))

pub returns-in_default-2 : goal.returns-in_default-2
returns-in_default-2 c = no_return c.args.content.now (λ some e. omega arith)
