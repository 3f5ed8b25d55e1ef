-- Which word a step changes, and which it leaves.
use Rattle.std.proofs.Common.{◌≡◌, ◌≢◌, ℕ, suc, ◌+◌, ◌*◌, ◌<◌, ◌≤◌, Bool, true, false, cond, List, length, refl, sym, ap, ◌∙◌, arith, mul-le-mul_right, suc-mul, le-leb, leb, leb-true}
use Rattle.std.specs.Prelude.{slice_index, slice_set}
use Rattle.std.proofs.lemmas.List.{get_or-set_same, get_or-set_other}
use Rattle.px_rule.specs.declared.shape.Shape.{Shape}
use Rattle.px_rule.specs.Words.{size_of, words_of, bank_at, place_at, bank_word, place_word}
use Rattle.px_rule.specs.Banks.{Turned}

-- a bank's word is not the version word, and no place
pub zero_apart : (words : List ℕ) (i n : ℕ) → slice_index (slice_set words (suc i) n) 0 ≡ slice_index words 0
zero_apart words i n = get_or-set_other words (suc i) 0 n 0 (λ e. omega arith)

module _ (z : Shape) where
  pub bank_apart : (words : List ℕ) (k n : ℕ) → k < z.banks → place_word z (slice_set words (bank_at k) n) ≡ place_word z words
  bank_apart words k n below = λ i j p. cond (leb (suc p) (size_of z)) (get_or-set_other words (suc k) (place_at z j p) n 0 (λ e. omega arith) i) 0

  pub bank_turned : (words : List ℕ) (k n : ℕ) → k < z.banks → suc k < length words → Turned (bank_word z words) (bank_word z (slice_set words (bank_at k) n)) k n
  bank_turned words k n known below = (
    ap (λ (t : Bool). cond t (slice_index (slice_set words (suc k) n) (suc k)) 0) (le-leb (suc k) z.banks (omega arith)) ∙ get_or-set_same words (suc k) n 0 below,
    λ j no. ap (λ (x : ℕ). cond (leb (suc j) z.banks) x 0) (get_or-set_other words (suc k) (suc j) n 0 (λ e. no (omega arith))),
  )

  pub bank_is : (words : List ℕ) (k : ℕ) → k < z.banks → slice_index words (suc k) ≡ bank_word z words k
  bank_is words k known = sym (ap (λ (t : Bool). cond t (slice_index words (suc k)) 0) (le-leb (suc k) z.banks (omega arith)))

  -- the index of a place tells its bank
  further : (j k p q n : ℕ) → p < n → q < n → j * n + q ≡ k * n + p → ¬ (j < k)
  further j k p q n lp lq e less = let l : suc j * n ≤ k * n = mul-le-mul_right n less in let x : ℕ = j * n in let y : ℕ = k * n in let t : suc j * n ≡ x + n = suc-mul j n in let e' : x + q ≡ y + p = e in let l' : suc j * n ≤ y = l in omega arith

  same_bank : (j k p q n : ℕ) → p < n → q < n → j * n + q ≡ k * n + p → j ≡ k
  same_bank j k p q n lp lq e = let a = further j k p q n lp lq e in let b = further k j q p n lq lp (sym e) in omega arith

  pub place_is : (words : List ℕ) (k p : ℕ) → p < size_of z → slice_index words (place_at z k p) ≡ place_word z words k p
  place_is words k p low = sym (ap (λ (t : Bool). cond t (slice_index words (place_at z k p)) 0) (le-leb (suc p) (size_of z) (omega arith)))

  pub place_within : (words : List ℕ) (k p : ℕ) → length words ≡ words_of z → k < z.banks → p < size_of z → place_at z k p < length words
  place_within words k p long below low = let l : suc k * size_of z ≤ z.banks * size_of z = mul-le-mul_right (size_of z) below in
      let x : ℕ = k * size_of z in let y : ℕ = z.banks * size_of z in let n : ℕ = size_of z in let t : suc k * size_of z ≡ x + n = suc-mul k (size_of z) in let long' : length words ≡ suc (z.banks + y) = long in
      let l' : suc k * size_of z ≤ y = l in let low' : p < n = low in let r : suc (z.banks + x + p) < length words = omega arith in r

  pub place_here : (words : List ℕ) (k p n : ℕ) → length words ≡ words_of z → k < z.banks → p < size_of z → place_word z (slice_set words (place_at z k p) n) k p ≡ n
  place_here words k p n long below low = sym (place_is (slice_set words (place_at z k p) n) k p low) ∙ get_or-set_same words (place_at z k p) n 0 (place_within words k p long below low)

  pub place_beside : (words : List ℕ) (k p n q : ℕ) → q ≢ p → place_word z (slice_set words (place_at z k p) n) k q ≡ place_word z words k q
  place_beside words k p n q other = ap (λ (x : ℕ). cond (leb (suc q) (size_of z)) x 0) (get_or-set_other words (place_at z k p) (place_at z k q) n 0 (λ e. other (omega arith)))

  pub place_else : (words : List ℕ) (k p n j q : ℕ) → p < size_of z → j ≢ k → place_word z (slice_set words (place_at z k p) n) j q ≡ place_word z words j q
  place_else words k p n j q low other = elim (leb (suc q) (size_of z)) as (λ t. leb (suc q) (size_of z) ≡ t → cond t (slice_index (slice_set words (place_at z k p) n) (place_at z j q)) 0 ≡ cond t (slice_index words (place_at z j q)) 0) [
    | true ↦ (λ e. let l = leb-true (suc q) (size_of z) e in
        get_or-set_other words (place_at z k p) (place_at z j q) n 0 (λ e. other (same_bank j k p q (size_of z) low (omega arith) (let x : ℕ = j * size_of z in let y : ℕ = k * size_of z in let e' : suc (z.banks + x + q) ≡ suc (z.banks + y + p) = e in let r : x + q ≡ y + p = omega arith in r))))
    | false ↦ (λ _. refl)
  ] refl

  pub bank_stays : (words : List ℕ) (k p n : ℕ) → bank_word z (slice_set words (place_at z k p) n) ≡ bank_word z words
  bank_stays words k p n = λ i j. (elim (leb (suc j) z.banks) as (λ t. leb (suc j) z.banks ≡ t → cond t (slice_index (slice_set words (place_at z k p) n) (suc j)) 0 ≡ cond t (slice_index words (suc j)) 0) [
    | true ↦ (λ e. let l = leb-true (suc j) z.banks e in get_or-set_other words (place_at z k p) (suc j) n 0 (λ e. let x : ℕ = k * size_of z in let e' : suc j ≡ suc (z.banks + x + p) = e in omega arith))
    | false ↦ (λ _. refl)
  ] refl) i
