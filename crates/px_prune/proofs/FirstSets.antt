-- The first states of filters as a set.
use Rattle.std.proofs.Common.{◌≡◌, ℕ, ◌<◌, ◌≤◌, ◌||◌, List, [], ◌∷◌, length, map, refl, sym, ◌∙◌, ap, arith, nat_eq}
use Rattle.px_text.specs.Sets.{has, Rising}
use Rattle.px_afa.specs.declared.state.First.{First}
use Rattle.px_afa.specs.declared.state.State.{State}
use Rattle.px_afa.specs.Sets.{first_set}
use Rattle.px_afa.specs.Sound.{AreRising}
use Rattle.px_afa.specs.Accepting.{ArePaths}
use Rattle.px_afa.proofs.Members.{has-with_number}
use Rattle.px_afa.proofs.Found.{state_at-below}
use Rattle.px_step.proofs.Unions.{rising_with}
use Rattle.px_step.proofs.RisingNumbers.{IsSet, set-is}

has-firsts : (firsts : List First) (n : ℕ) → has (map (λ (f : First). f.state) firsts) n ≡ has (first_set firsts) n
has-firsts [] n = refl
has-firsts (f ∷ firsts) n = ap (λ z. nat_eq f.state n || z) (has-firsts firsts n) ∙ sym (has-with_number f.state (first_set firsts) n)

firsts-rise : (states : List State) (firsts : List First) → length states ≤ 500000 → ArePaths states firsts → Rising (first_set firsts)
firsts-rise states [] few paths = tt
firsts-rise states (f ∷ firsts) few paths =
    let there : f.state < length states = state_at-below states f.state _ paths.0.3 in
    rising_with f.state (first_set firsts) (omega arith) (firsts-rise states firsts few paths.1)

pub first-set : (states : List State) (firsts : List First) (given xs : List ℕ) → length states ≤ 500000 → ArePaths states firsts → given ≡ map (λ (f : First). f.state) firsts →
    AreRising xs → ((n : ℕ) → has xs n ≡ has given n) → IsSet (first_set firsts) xs
first-set states firsts given xs few paths e rises same = set-is (first_set firsts) given xs (firsts-rise states firsts few paths) (λ n. ap (λ z. has z n) e ∙ has-firsts firsts n) rises same
