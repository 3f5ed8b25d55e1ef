-- Names that stand behind one another: how many they are, and one more.
use Rattle.std.proofs.Common.{◌≡◌, ℕ, Bool, true, false, ◌||◌, bytes_eq, subst, List, [], ◌∷◌, ◌++◌, ◌==◌, length, take, drop, reverse, refl, ap, sym, ◌∙◌, arith}
use Rattle.std.proofs.lemmas.Bool.Decides.{nat_tests}
use Rattle.std.proofs.lemmas.List.{length-reverse, reverse-append, length-take-le}
use Rattle.px_reader.specs.Stacks.{names_in, is_none, AreCut}
use Rattle.px_reader.specs.Spelling.{is_among}

pub count : (bytes starts : List ℕ) → length (names_in bytes starts) ≡ length starts
count bytes [] = refl
count bytes (start ∷ starts) = let e = count (take start bytes) starts in omega arith

pub count_reversed : (bytes starts : List ℕ) → length (names_in bytes (reverse starts)) ≡ length starts
count_reversed bytes starts = count bytes (reverse starts) ∙ length-reverse starts

pub none_by_count : (names : List (List ℕ)) → is_none names ≡ (length names == 0)
none_by_count [] = refl
none_by_count (name ∷ names) = grind (arith, nat_tests)

-- the last name, and those before it
pub stack_last : (name held rest front : List ℕ) (start : ℕ) → rest ≡ front ++ start ∷ [] →
    is_among name (names_in held (reverse rest)) ≡ (bytes_eq name (drop start held) || is_among name (names_in (take start held) (reverse front)))
stack_last name held rest front start e = ap (λ ss. is_among name (names_in held ss)) (ap reverse e ∙ reverse-append front (start ∷ []))

pub stack_cut : (held rest front : List ℕ) (start : ℕ) → rest ≡ front ++ start ∷ [] → AreCut (length held) (reverse rest) → AreCut (length (take start held)) (reverse front)
stack_cut held rest front start e cut =
    let parts : AreCut (length held) (start ∷ reverse front) = subst (AreCut (length held)) (ap reverse e ∙ reverse-append front (start ∷ [])) cut in
    subst (λ n. AreCut n (reverse front)) (sym (length-take-le start held parts.0)) parts.1

pub or_first : (a b : Bool) → a ≡ true → (a || b) ≡ true
or_first true b e = refl
or_first false b e = absurd (cc)

pub or_second : (a b : Bool) → a ≡ false → (a || b) ≡ b
or_second true b e = absurd (cc)
or_second false b e = refl
