-- The state of a number is the one at that place.
use Rattle.std.proofs.Common.{◌≡◌, ℕ, zero, suc, ◌+◌, ◌<◌, true, false, List, [], ◌∷◌, ◌++◌, length, get_or, refl, sym, ◌∙◌, ap, arith, nat_eq, Some}
use Rattle.std.proofs.lemmas.Bool.{eq-eqb, ne_eqb}
use Rattle.px_afa.specs.declared.state.State.{State}
use Rattle.px_afa.specs.Truth.{state_at}
use Rattle.px_afa.specs.Building.{newest_onto, newest}

-- an older state stays where it was
pub state_at-older : (s : State) (states : List State) (n : ℕ) → n < length states → state_at (s ∷ states) n ≡ state_at states n
state_at-older s states n less = let e : nat_eq n (length states) ≡ false = ne_eqb n (length states) (λ same. omega arith) in rw e refl

onto_older : (older : List State) (states : List State) (n : ℕ) → n < length older → state_at (newest_onto older states) n ≡ state_at older n
onto_older older [] n less = refl
onto_older older (s ∷ states) n less = onto_older (s ∷ older) states n (omega arith) ∙ state_at-older s older n less

onto_at : (older : List State) (states : List State) (k : ℕ) (x : State) → k < length states → x ≡ get_or states k x →
    state_at (newest_onto older states) (length older + k) ≡ Some x
onto_at older [] k x less e = absurd (omega arith)
onto_at older (s ∷ states) zero x less e =
    let at : length older + 0 ≡ length older = omega arith in
    let here : nat_eq (length older) (length older) ≡ true = eq-eqb (length older) (length older) refl in
    ap (state_at (newest_onto (s ∷ older) states)) at ∙ (onto_older (s ∷ older) states (length older) (omega arith) ∙ rw here (ap Some (sym e)))
onto_at older (s ∷ states) (suc k) x less e =
    let at : length older + suc k ≡ suc (length older) + k = omega arith in
    ap (state_at (newest_onto (s ∷ older) states)) at ∙ onto_at (s ∷ older) states k x (omega arith) e

pub newest-at : (states : List State) (n : ℕ) (x : State) → n < length states → x ≡ get_or states n x → state_at (newest states) n ≡ Some x
newest-at states n x less e = let at : n ≡ 0 + n = omega arith in ap (state_at (newest states)) at ∙ onto_at [] states n x less e

onto_length : (older : List State) (states : List State) → length (newest_onto older states) ≡ length older + length states
onto_length older [] = omega arith
onto_length older (s ∷ states) = let more = onto_length (s ∷ older) states in omega arith

pub newest-length : (states : List State) → length (newest states) ≡ length states
newest-length states = let all = onto_length [] states in omega arith

onto_end : (older states : List State) (x : State) → newest_onto older (states ++ x ∷ []) ≡ x ∷ newest_onto older states
onto_end older [] x = refl
onto_end older (s ∷ states) x = onto_end (s ∷ older) states x

-- a state at the end is the newest
pub newest-end : (states : List State) (x : State) → newest (states ++ x ∷ []) ≡ x ∷ newest states
newest-end states x = onto_end [] states x

-- the two as code finds them
pub number-less : (states : List State) (count n size : ℕ) → count ≡ length states → size ≡ length (newest states) → n < size → n < count
number-less states count n size c s less = let all = newest-length states in omega arith

pub found-at : (states now : List State) (n : ℕ) (x : State) → newest states ≡ now → n < length now → x ≡ get_or states n x → state_at now n ≡ Some x
found-at states now n x is less e =
    let all = newest-length states in
    let long : length now ≡ length (newest states) = ap length (sym is) in
    ap (λ z. state_at z n) (sym is) ∙ newest-at states n x (omega arith) e
