-- Texts that stand for themselves, by the first line feed or backslash.
use Rattle.std.proofs.Common.{◌≡◌, ℕ, zero, suc, ◌-◌, ◌<◌, ◌≤◌, Bool, true, false, ◌||◌, ◌==◌, List, [], ◌∷◌, length, take, get_or, refl, arith, inl, inr}
use Rattle.std.specs.Cmp.Derive.{both_true}
use Rattle.std.proofs.lemmas.Bool.{not_from_false}
use Rattle.std.proofs.lemmas.Bool.Decides.{eqb_tells}
use Rattle.px_reader.specs.Lines.{has_no_feed}
use Rattle.px_reader.specs.Plain.{has_no_escape, ends_plain, IsPlain}

neither : (a b : Bool) → ((a || b) ≡ true → ⊥) → (a ≡ false) × (b ≡ false)
neither true b n = absurd (n refl)
neither false true n = absurd (n refl)
neither false false n = (refl, refl)

abbrev None : List ℕ → ℕ → Type 0
None bytes k = (j : ℕ) → 0 ≤ j → j < k → (get_or bytes j 0 == 10 || get_or bytes j 0 == 92) ≡ true → ⊥

both_none : (bytes : List ℕ) (k : ℕ) → None bytes k → (has_no_feed (take k bytes) ≡ true) × (has_no_escape (take k bytes) ≡ true)
both_none bytes zero n = (refl, refl)
both_none [] (suc k) n = (refl, refl)
both_none (b ∷ bytes) (suc k) n =
    let h = neither (b == 10) (b == 92) (n 0 (omega arith) (omega arith)) in
    let r = both_none bytes k (λ j low high e. n (suc j) (omega arith) (omega arith) e) in
    (both_true (not_from_false (b == 10) h.0) r.0, both_true (not_from_false (b == 92) h.1) r.1)

ends_with : (bytes : List ℕ) (k : ℕ) → k ≤ length bytes → (0 < k → get_or bytes (k - 1) 0 ≡ 13 → ⊥) → ends_plain (take k bytes) ≡ true
ends_with bytes zero l n = refl
ends_with [] (suc k) l n = absurd (omega arith)
ends_with (b ∷ bytes) (suc zero) l n = elim (eqb_tells b 13) [ inl p ↦ absurd (n (omega arith) p.1) | inr p ↦ not_from_false (b == 13) p.0 ]
ends_with (b ∷ []) (suc (suc k)) l n = absurd (omega arith)
ends_with (b ∷ c ∷ bytes) (suc (suc k)) l n =
    ends_with (c ∷ bytes) (suc k) (omega arith) (λ s e. n (omega arith) (further b c bytes k e))
  where
    further : (b c : ℕ) (bytes : List ℕ) (k : ℕ) → get_or (c ∷ bytes) (suc k - 1) 0 ≡ 13 → get_or (b ∷ c ∷ bytes) (suc (suc k) - 1) 0 ≡ 13
    further b c bytes k e =
        let m : suc (suc k) - 1 ≡ suc (suc k - 1) = omega arith in
        rw m e

pub plain_by : (bytes : List ℕ) (k : ℕ) → k < length bytes → None bytes k → get_or bytes k 0 ≡ 10 → (0 < k → get_or bytes (k - 1) 0 ≡ 13 → ⊥) → IsPlain bytes k
plain_by bytes k l n f r =
    let b = both_none bytes k n in
    record { within = l; feed = f; no_feed = b.0; no_escape = b.1; no_return = ends_with bytes k (omega arith) r }
