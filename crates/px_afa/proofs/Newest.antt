-- The states up to a number, newest first, as a loop comes to them.
use Rattle.std.proofs.Common.{◌≡◌, ℕ, zero, suc, ◌+◌, ◌<◌, ◌≤◌, List, [], ◌∷◌, ◌++◌, length, get_or, take, sym, ◌∙◌, ap, arith}
use Rattle.px_afa.specs.declared.state.State.{State}
use Rattle.px_afa.specs.Building.{newest}
use Rattle.px_afa.proofs.StatesByNumber.{newest-end}

take_more : (states : List State) (n : ℕ) (x : State) → n < length states → x ≡ get_or states n x → take (suc n) states ≡ take n states ++ x ∷ []
take_more [] n x less is = absurd (omega arith)
take_more (s ∷ states) zero x less is = ap (λ z. z ∷ []) (sym is)
take_more (s ∷ states) (suc n) x less is = ap (λ rest. s ∷ rest) (take_more states n x (omega arith) is)

pub newest_more : (states : List State) (n : ℕ) (x : State) → n < length states → x ≡ get_or states n x → newest (take (suc n) states) ≡ x ∷ newest (take n states)
newest_more states n x less is = ap newest (take_more states n x less is) ∙ newest-end (take n states) x

pub newest_next : (states : List State) (n m : ℕ) (x : State) → n < length states → x ≡ get_or states n x → m ≡ n + 1 → newest (take m states) ≡ x ∷ newest (take n states)
newest_next states n m x less is next = let e : m ≡ suc n = omega arith in ap (λ k. newest (take k states)) e ∙ newest_more states n x less is
