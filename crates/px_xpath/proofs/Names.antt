-- The longest name at the front of a text.
use Rattle.std.proofs.Common.{◌≡◌, ℕ, ◌+◌, ◌<◌, Bool, true, false, List, [], ◌∷◌, ◌++◌, ◌==◌, length, take, drop, take_while, if◌then◌else◌, refl, ap, sym, add_assoc, arith}
use Rattle.std.proofs.lemmas.Bool.Decides.{nat_tests}
use Rattle.std.proofs.lemmas.List.Folds.{length-prefix_len}
use Rattle.std.proofs.Math.Numerals.{one-add}
use Rattle.std.proofs.Math.Seq.{take-add}
use Rattle.px_text.specs.Names.{begins_part, continues_part, is_white}
use Rattle.px_text.specs.Numbers.{past, is_empty, starts_with_byte}
use Rattle.px_xpath.specs.Tokens.{Token, Sized, part, name_at, word, word_at}

-- a part is what stands at the front
part_front : (xs : List ℕ) → take (length (part xs)) xs ≡ part xs
part_front [] = refl
part_front (x ∷ xs) =
    elim (begins_part x) as (λ b. take (length (if b then x ∷ take_while continues_part xs else [])) (x ∷ xs) ≡ (if b then x ∷ take_while continues_part xs else []))
    [ true ↦ ap (λ k. x ∷ take k xs) (length-prefix_len continues_part xs) | false ↦ refl ]

two_parts : (text xs : List ℕ) (x : ℕ) → is_empty (part text) ≡ false → drop (length (part text)) text ≡ x ∷ xs → (x == 58) ≡ true → is_empty (part xs) ≡ false →
    take (length (part text) + 1 + length (part xs)) text ≡ name_at text
two_parts text xs x some d e n =
    let colon : x ≡ 58 = grind (arith, nat_tests) in
    rw (add_assoc (length (part text)) 1 (length (part xs)), take-add (length (part text)) (1 + length (part xs)) text, part_front text, some, d, e, n, one-add)
    (rw colon (ap (λ ys. part text ++ 58 ∷ ys) (part_front xs)))

pub joined : (text first rest second : List ℕ) → first ≡ part text → rest ≡ drop (length first) text → second ≡ part (drop 1 rest) →
    is_empty first ≡ false → starts_with_byte 58 rest ≡ true → is_empty second ≡ false → take (length first + 1 + length second) text ≡ name_at text
joined text first [] second f r s some e n = absurd (cc)
joined text first (x ∷ xs) second f r s some e n = rw (f, s) (two_parts text xs x (rw f at some) (rw f at (sym r)) e (rw s at n))

pub not_empty : (xs : List ℕ) (b : Bool) → b ≡ (length xs == 0) → b ≡ false → is_empty xs ≡ false
not_empty [] b e f = absurd (cc)
not_empty (x ∷ xs) b e f = refl

-- the word of a name that is there
pub word_is : (behind_operand : Bool) (text name : List ℕ) (found : Token) → name ≡ name_at text → is_empty name ≡ false →
    found ≡ word behind_operand (starts_with_byte 40 (past is_white (drop (length name) text))) name → ◌≡◌ {A = Sized} (found, length name) (word_at behind_operand text)
word_is behind_operand text name found e n f = rw (← e, n, f) refl

pub some_bytes : (xs : List ℕ) → is_empty xs ≡ false → 0 < length xs
some_bytes [] e = absurd (cc)
some_bytes (x ∷ xs) e = omega arith
