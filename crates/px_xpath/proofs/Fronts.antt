-- The front of a list that passes a test.
use Rattle.std.proofs.Common.{◌≡◌, ℕ, ◌-◌, ◌+◌, Bool, true, false, List, [], ◌∷◌, length, take, drop, length-drop, take_while, cond, IsTrue, refl, ap, ◌∙◌}
use Rattle.std.proofs.Math.Numerals.{one-add}
use Rattle.std.specs.List.{prefix_len, list_all}
use Rattle.std.proofs.lemmas.List.Folds.{length-prefix_len}
use Rattle.std.proofs.Math.Seq.{take-length}
use Rattle.px_text.specs.Numbers.{past}

-- as many elements as it has are the front
pub take_front : (test : ℕ → Bool) (xs : List ℕ) (n : ℕ) → n ≡ length (take_while test xs) → take n xs ≡ take_while test xs
take_front test xs n e = ap (λ k. take k xs) (e ∙ length-prefix_len test xs)

-- and what is behind them does not pass
pub drop_front : (test : ℕ → Bool) (xs : List ℕ) → drop (length (take_while test xs)) xs ≡ past test xs
drop_front test xs = ap (λ k. drop k xs) (length-prefix_len test xs) ∙ dropped test xs
  where
    dropped : (test : ℕ → Bool) (xs : List ℕ) → drop (prefix_len test xs) xs ≡ past test xs
    dropped test [] = refl
    dropped test (x ∷ xs) = elim (test x) as (λ b. drop (cond b (1 + prefix_len test xs) 0) (x ∷ xs) ≡ cond b (past test xs) (x ∷ xs)) [ true ↦ rw one-add (dropped test xs) | false ↦ refl ]

-- each element of it passes
pub front_passes : (test : ℕ → Bool) (xs : List ℕ) → IsTrue (list_all test (take_while test xs))
front_passes test [] = refl
front_passes test (x ∷ xs) = from (test x) refl (front_passes test xs)
  where
    from : (b : Bool) → test x ≡ b → IsTrue (list_all test (take_while test xs)) → IsTrue (list_all test (take (cond b (1 + prefix_len test xs) 0) (x ∷ xs)))
    from true e ih = rw one-add (rw e ih)
    from false e ih = refl

pub counted_passes : (test : ℕ → Bool) (xs : List ℕ) (n : ℕ) → n ≡ length (take_while test xs) → IsTrue (list_all test (take n xs))
counted_passes test xs n e = rw (take_front test xs n e) (front_passes test xs)

-- a rest as a slice of the program gives it
pub rest_is : (xs : List ℕ) (n : ℕ) → take (length xs - n) (drop n xs) ≡ drop n xs
rest_is xs n = rw (← length-drop n xs) (take-length (drop n xs))

pub past_counted : (test : ℕ → Bool) (xs : List ℕ) (n : ℕ) → n ≡ length (take_while test xs) → take (length xs - n) (drop n xs) ≡ past test xs
past_counted test xs n e = rest_is xs n ∙ ap (λ k. drop k xs) e ∙ drop_front test xs
