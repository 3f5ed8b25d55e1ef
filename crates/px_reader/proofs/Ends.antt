-- A line without its end, by its last two bytes.
use Rattle.std.proofs.Common.{◌≡◌, ℕ, suc, ◌-◌, ◌<◌, List, [], ◌∷◌, length, get_or, refl, ap, ◌∙◌, inl, inr, arith}
use Rattle.std.proofs.lemmas.Bool.Decides.{eqb_tells}
use Rattle.px_reader.specs.Lines.{without_end}

-- the last byte of a longer line, and the one before it
last_more : (b c : ℕ) (line : List ℕ) → get_or (b ∷ c ∷ line) (length (b ∷ c ∷ line) - 1) 0 ≡ get_or (c ∷ line) (length (c ∷ line) - 1) 0
last_more b c line =
    let m : length (b ∷ c ∷ line) - 1 ≡ suc (length (c ∷ line) - 1) = omega arith in
    rw m refl

-- where the last byte is no line feed, the line has no end
pub end_none : (line : List ℕ) → (0 < length line → get_or line (length line - 1) 0 ≡ 10 → ⊥) → without_end line ≡ line
end_none [] n = refl
end_none (b ∷ []) n = elim (eqb_tells b 10) [ inl p ↦ absurd (n (omega arith) p.1) | inr p ↦ rw p.0 refl ]
end_none (b ∷ c ∷ []) n = elim (eqb_tells c 10) [ inl p ↦ absurd (n (omega arith) p.1) | inr p ↦ rw p.0 refl ]
end_none (b ∷ c ∷ d ∷ line) n = ap (λ bs. b ∷ bs) (end_none (c ∷ d ∷ line) (λ l e. n (omega arith) (last_more b c (d ∷ line) ∙ e)))
