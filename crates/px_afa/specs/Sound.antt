-- What is true of each program.
use Rattle.std.specs.Prelude.{ℕ, ◌≤◌, List, [], ◌∷◌, length, map, IsTrue}
use Rattle.px_text.specs.Sets.{Above}
use Rattle.px_xpath.specs.Histories.{Subscription, live_size}
use Rattle.px_xpath.specs.Proper.{is_proper}
use Rattle.px_afa.specs.Building.{Automata}
use Rattle.px_afa.specs.Accepting.{ArePaths}
use Rattle.px_afa.specs.Orders.{IsOrdered}

-- each number is below the next
abbrev pub AreRising : List ℕ → Type 0
AreRising [] = Unit {0}
AreRising (x ∷ xs) = Above x xs × AreRising xs

-- each filter is one that a text can write
abbrev pub AreProper : List Subscription → Type 0
AreProper [] = Unit {0}
AreProper (s ∷ live) = IsTrue (is_proper s.filter) × AreProper live

pub record IsSound (automata : Automata) : Type 0 where
  pub ordered : IsOrdered automata.states
  pub few : length automata.states ≤ 500_000
  pub paths : ArePaths automata.states automata.firsts
  pub ids_rise : AreRising (map (λ f. f.id) automata.firsts)

-- live filters that a program can be built of
pub record AreLive (live : List Subscription) : Type 0 where
  pub ids_rise : AreRising (map (λ s. s.id) live)
  pub few : live_size live ≤ 500_000
