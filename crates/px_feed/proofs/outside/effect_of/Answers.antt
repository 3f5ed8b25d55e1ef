-- A line that begins with no byte that has a meaning of its own.
use Rattle.std.proofs.Common.{◌≡◌, ℕ, Bool, true, false, ◌==◌, if◌then◌else◌, List, ◌∷◌, refl, sym, ap, ◌∙◌, subst, inl, inr, ◌⊎◌, arith}
use Rattle.std.proofs.lemmas.Bool.Decides.{eqb_tells}
use Rattle.px_text.specs.Names.{is_letter, is_pyx_name}
use Rattle.px_reader.specs.Lines.{Closes, Odd, Passed}
use Rattle.px_feed.specs.Items.{Skips, Misplaced, outside, of_kind}
use Rattle.px_feed.specs.Effects.{Does, passed_by}
use Rattle.px_feed.proofs.outside.effect_of.Goals as goal

other : (b n : ℕ) → (b ≡ n → ⊥) → (b == n) ≡ false
other b n h = elim (eqb_tells b n) [ inl p ↦ absurd (h p.1) | inr p ↦ p.0 ]

closing : (t : Bool) (name : List ℕ) → of_kind (if t then Closes name else Odd) ≡ Misplaced
closing true name = refl
closing false name = refl

letter : (t : Bool) → of_kind (if t then Passed else Odd) ≡ (if t then Skips else Misplaced)
letter true = refl
letter false = refl

other_line : (b : ℕ) (rest : List ℕ) → (b ≡ 43 → ⊥) → (b ≡ 126 → ⊥) → (b ≡ 94 → ⊥) → (b ≡ 40 → ⊥) → (b ≡ 45 → ⊥) → (b ≡ 63 → ⊥) → (b ≡ 65 → ⊥) →
    outside (b ∷ rest) ≡ passed_by b
other_line b rest plus wave caret paren dash question attribute = on (eqb_tells b 41)
  where
    on : ((b == 41) ≡ true) × (b ≡ 41) ⊎ ((b == 41) ≡ false) × (b ≡ 41 → ⊥) → outside (b ∷ rest) ≡ passed_by b
    on (inl p) = rw p.1 (closing (is_pyx_name rest) rest)
    on (inr p) = rw (other b 43 plus, other b 126 wave, other b 94 caret, other b 40 paren, p.0, other b 65 attribute, other b 45 dash, other b 63 question) (letter (is_letter b))

pub returns-in_default-first : goal.returns-in_default-first
returns-in_default-first c =
    let b = c.in-Some.first.now in
    let plus : b ≡ 43 → ⊥ = omega arith in
    let wave : b ≡ 126 → ⊥ = omega arith in
    let caret : b ≡ 94 → ⊥ = omega arith in
    let paren : b ≡ 40 → ⊥ = omega arith in
    let dash : b ≡ 45 → ⊥ = omega arith in
    let question : b ≡ 63 → ⊥ = omega arith in
    let attribute : b ≡ 65 → ⊥ = omega arith in
    let same = ap outside c.in-Some.ensures.cases.0 ∙ other_line b c.in-Some.rest.now plus wave caret paren dash question attribute in
    subst (λ does. Does c.pass.result does) (sym same) c.pass.ensures
