-- Each part of a state has a lower number.
use Rattle.std.specs.Prelude.{◌≡◌, ℕ, ◌<◌, true, List, [], ◌∷◌, length, nat_lt}
use Rattle.std.specs.List.{list_all}
use Rattle.px_afa.specs.declared.state.Body.{Body}
use Rattle.px_afa.specs.declared.state.Body.TheVariants as body
use Rattle.px_afa.specs.declared.state.State.{State}
use Rattle.px_afa.specs.declared.state.State.TheVariants as state

abbrev pub IsBodyBelow : Body → ℕ → Type 0
IsBodyBelow body.Always n = Unit {0}
IsBodyBelow (body.State m) n = m < n

abbrev pub IsStateBelow : State → ℕ → Type 0
IsStateBelow (state.Path axis t b) n = IsBodyBelow b n
IsStateBelow (state.And parts) n = list_all (λ p. nat_lt p n) parts ≡ true
IsStateBelow (state.Or parts) n = list_all (λ p. nat_lt p n) parts ≡ true
IsStateBelow (state.Not part) n = part < n
IsStateBelow (state.Value r wanted) n = Unit {0}

abbrev pub IsOrdered : List State → Type 0
IsOrdered [] = Unit {0}
IsOrdered (s ∷ before) = IsStateBelow s (length before) × IsOrdered before
