-- Text with escapes, cut at a backslash.
use Rattle.std.proofs.Common.{◌≡◌, ℕ, zero, suc, ◌<◌, ◌≤◌, true, false, ◌==◌, List, [], ◌∷◌, ◌++◌, length, take, drop, get_or, min, refl, ap, ◌∙◌, sym, append-nil, add-zero, length-drop, get_or-drop, arith}
use Rattle.std.proofs.lemmas.Bool.Decides.{nat_tests}
use Rattle.memchr.specs.Find.{Nowhere, Passes, is_byte}
use Rattle.px_text.specs.Escapes.{escape, unescaped}

-- a byte that is no backslash stands for itself
plain : (b : ℕ) (bytes : List ℕ) → ((b == 92) ≡ true → ⊥) → unescaped (b ∷ bytes) ≡ b ∷ unescaped bytes
plain b bytes h = let no : (b == 92) ≡ false = grind (arith, nat_tests) in rw no refl

pub backslash : (b : ℕ) → (b == 92) ≡ true → b ≡ 92
backslash b h = grind (arith, nat_tests)

-- up to the first backslash a text stands for itself
pub up_to_backslash : (text : List ℕ) (at : ℕ) → at ≤ length text → Nowhere (Passes (is_byte 92) text) 0 at → unescaped text ≡ take at text ++ unescaped (drop at text)
up_to_backslash text zero h none = refl
up_to_backslash [] (suc at) h none = absurd (omega arith)
up_to_backslash (b ∷ bytes) (suc at) h none =
    plain b bytes (none 0 (omega arith) (omega arith))
    ∙ ap (λ t. b ∷ t) (up_to_backslash bytes at (omega arith) (λ k low l. none (suc k) (omega arith) (omega arith)))

pub no_backslash : (text : List ℕ) → Nowhere (Passes (is_byte 92) text) 0 (length text) → unescaped text ≡ text
no_backslash [] none = refl
no_backslash (b ∷ bytes) none =
    plain b bytes (none 0 (omega arith) (omega arith)) ∙ ap (λ t. b ∷ t) (no_backslash bytes (λ k low l. none (suc k) (omega arith) (omega arith)))

-- an escape, and what is behind it
escape_first : (text : List ℕ) (n : ℕ) → n ≡ min (length text) 2 → 0 < length text → get_or text 0 0 ≡ 92 → unescaped text ≡ unescaped (take n text) ++ unescaped (drop n text)
escape_first [] n e l h = absurd (omega arith)
escape_first (b ∷ []) n e l h = let one : n ≡ 1 = omega arith in rw (one, h) refl
escape_first (b ∷ c ∷ bytes) n e l h =
    let two : n ≡ 2 = omega arith in rw (two, h) (ap (λ t. t ++ unescaped bytes) (sym (append-nil (escape c))))

-- up to the first backslash, the escape that it begins, and what is behind
pub up_to_escape : (text : List ℕ) (at n : ℕ) → n ≡ min (length (drop at text)) 2 → at < length text → Nowhere (Passes (is_byte 92) text) 0 at → Passes (is_byte 92) text at →
    unescaped text ≡ take at text ++ (unescaped (take n (drop at text)) ++ unescaped (drop n (drop at text)))
up_to_escape text at n e l none h =
    let first : get_or (drop at text) 0 0 ≡ 92 = get_or-drop at text 0 0 ∙ ap (λ i. get_or text i 0) (add-zero at) ∙ backslash (get_or text at 0) h in
    up_to_backslash text at (omega arith) none
    ∙ ap (λ t. take at text ++ t) (escape_first (drop at text) n e (omega (arith, length-drop at text)) first)
