-- Beginnings of lists, and the entries that name one pass.
use Rattle.std.proofs.Common.{◌≡◌, ◌≢◌, ℕ, ◌≤◌, Bool, true, false, cond, eqb, List, [], ◌∷◌, ◌++◌, length, refl, sym, ap, ◌∙◌, arith, length-append, eq-eqb, ne_eqb}
use Rattle.std.proofs.lemmas.List.{append_assoc, append-nil}
use Rattle.std.proofs.Common.{drop}
use mathlib.Core.Option.{Option, none, some, some-injective}
use Rattle.px_rule.specs.Histories.{Begins, named}

module _ {E : Type 0} where
  cons_head : {x y : E} {xs ys : List E} → x ∷ xs ≡ y ∷ ys → x ≡ y
  cons_head {x} {y} {xs} {ys} e = some-injective x y (ap first e)
    where
      first : List E → Option E
      first [] = none
      first (z ∷ zs) = some z

  cons_tail : {x y : E} {xs ys : List E} → x ∷ xs ≡ y ∷ ys → xs ≡ ys
  cons_tail {x} {y} {xs} {ys} e = ap (drop 1) e

  pub begins_refl : (xs : List E) → Begins xs xs
  begins_refl xs = ([], sym (append-nil xs))

  pub begins_more : (xs ys zs : List E) → Begins xs ys → Begins xs (ys ++ zs)
  begins_more xs ys zs b = (b.0 ++ zs, ap (λ l. l ++ zs) b.1 ∙ append_assoc xs b.0 zs)

  pub begins_trans : (xs ys zs : List E) → Begins xs ys → Begins ys zs → Begins xs zs
  begins_trans xs ys zs b c = (b.0 ++ c.0, c.1 ∙ (ap (λ l. l ++ c.0) b.1 ∙ append_assoc xs b.0 c.0))

  pub begins_length : (xs ys : List E) → Begins xs ys → length xs ≤ length ys
  begins_length xs ys b = omega (arith, length-append xs b.0, ap length b.1)

  pub begins_nil : (xs : List E) → Begins [] xs
  begins_nil xs = (xs, refl)

  nothing_left : (zs : List E) → length zs ≤ 0 → zs ≡ []
  nothing_left [] h = refl
  nothing_left (z ∷ zs) h = absurd (omega arith)

  pub begins_whole : (xs ys : List E) → Begins xs ys → length ys ≤ length xs → ys ≡ xs
  begins_whole xs ys b h = b.1 ∙ (ap (λ l. xs ++ l) (nothing_left b.0 (omega (arith, length-append xs b.0, ap length b.1))) ∙ append-nil xs)

  -- of two beginnings of one list the shorter begins the longer
  pub begins_beside : (xs ys zs : List E) → Begins xs zs → Begins ys zs → length xs ≤ length ys → Begins xs ys
  begins_beside [] ys zs a b h = begins_nil ys
  begins_beside (x ∷ xs) [] zs a b h = absurd (omega arith)
  begins_beside (x ∷ xs) (y ∷ ys) [] a b h = absurd (let e = a.1 in cc)
  begins_beside (x ∷ xs) (y ∷ ys) (z ∷ zs) a b h =
      let r = begins_beside xs ys zs (a.0, cons_tail a.1) (b.0, cons_tail b.1) (omega arith) in
      let head : y ≡ x = sym (cons_head b.1) ∙ cons_head a.1 in
      (r.0, λ i. head i ∷ r.1 i)

  pub no_longer : (xs : List E) (e : E) → xs ++ e ∷ [] ≢ xs
  no_longer xs e h = absurd (omega (arith, length-append xs (e ∷ []), ap length h))

module _ {E : Type 0} (who : E → ℕ) where
  pub named-append : (p : ℕ) (xs ys : List E) → named who p (xs ++ ys) ≡ named who p xs ++ named who p ys
  named-append p [] ys = refl
  named-append p (x ∷ xs) ys = let rest = named-append p xs ys in
      elim (eqb (who x) p) as (λ b. cond b (x ∷ named who p (xs ++ ys)) (named who p (xs ++ ys)) ≡ cond b (x ∷ named who p xs) (named who p xs) ++ named who p ys)
      [ true ↦ ap (λ l. x ∷ l) rest | false ↦ rest ]

  pub named_begins : (p : ℕ) (xs ys : List E) → Begins xs ys → Begins (named who p xs) (named who p ys)
  named_begins p xs ys b = (named who p b.0, ap (named who p) b.1 ∙ named-append p xs b.0)

  pub named_own : (p : ℕ) (e : E) (xs : List E) → who e ≡ p → named who p (xs ++ e ∷ []) ≡ named who p xs ++ e ∷ []
  named_own p e xs is = named-append p xs (e ∷ []) ∙ ap (λ (b : Bool). named who p xs ++ cond b (e ∷ []) []) (eq-eqb (who e) p is)

  pub named_other : (p : ℕ) (e : E) (xs : List E) → who e ≢ p → named who p (xs ++ e ∷ []) ≡ named who p xs
  named_other p e xs not = named-append p xs (e ∷ []) ∙ (ap (λ (b : Bool). named who p xs ++ cond b (e ∷ []) []) (ne_eqb (who e) p not) ∙ append-nil (named who p xs))
