-- Text is text line by line.
use Rattle.std.proofs.Common.{◌≡◌, ℕ, ◌+◌, ◌<◌, true, List, [], ◌∷◌, ◌++◌, length, take, drop, get_or, refl, sym, subst, inl, inr, ◌⊎◌, length-append, arith, IsUtf8}
use Rattle.std.proofs.lemmas.Str.{IsUtf8-take, IsUtf8-drop, IsCharBoundary-after_ascii}
use Rattle.std.proofs.lemmas.List.{take_at, drop_at}

-- A front that ends with a line feed and what is behind it are text where the whole is.
pub text_parts : (front rest : List ℕ) → IsUtf8 ((front ++ 10 ∷ []) ++ rest) → IsUtf8 (front ++ 10 ∷ []) × IsUtf8 rest
text_parts front rest u =
    let whole = (front ++ 10 ∷ []) ++ rest in
    let n : length (front ++ 10 ∷ []) ≡ length front + 1 = length-append front (10 ∷ []) in
    let at : get_or whole (length front) 0 ≡ 10 = seam front rest in
    let l : length front < length whole = let m = length-append (front ++ 10 ∷ []) rest in omega arith in
    let b = IsCharBoundary-after_ascii whole (length front) u l (omega arith) in
    let t : take (length front + 1) whole ≡ front ++ 10 ∷ [] = take_at (front ++ 10 ∷ []) rest (length front + 1) n in
    let d : drop (length front + 1) whole ≡ rest = drop_at (front ++ 10 ∷ []) rest (length front + 1) n in
    (subst IsUtf8 t (IsUtf8-take whole (length front + 1) u b), subst IsUtf8 d (IsUtf8-drop whole (length front + 1) u b))
  where
    seam : (front rest : List ℕ) → get_or ((front ++ 10 ∷ []) ++ rest) (length front) 0 ≡ 10
    seam [] rest = refl
    seam (b ∷ front) rest = seam front rest
