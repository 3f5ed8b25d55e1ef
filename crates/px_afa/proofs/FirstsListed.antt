-- What is true of the first states of live filters.
use Rattle.std.proofs.Common.{◌≡◌, ℕ, ◌≤◌, List, [], ◌∷◌, ◌++◌, length, sym, ap, subst, arith}
use Rattle.px_xpath.specs.declared.numbered.Numbered.{Numbered}
use Rattle.px_xpath.specs.Subscribed.{subscriptions}
use Rattle.px_afa.specs.declared.state.State.{State}
use Rattle.px_afa.specs.declared.state.First.{First}
use Rattle.px_afa.specs.Building.{Automata, newest, automata}
use Rattle.px_afa.specs.Sound.{AreLive, AreProper, IsSound}
use Rattle.px_afa.proofs.Soundness.{automata-sound}
use Rattle.px_afa.proofs.StatesByNumber.{newest-length}

-- what is made of all filters, of which some were taken
abbrev pub onto : List First → Automata → Automata
onto firsts rest = record { states = rest.states; firsts = firsts ++ rest.firsts }

-- each filter of the program is proper
are-proper : (live : List Numbered) → AreProper (subscriptions live)
are-proper [] = tt
are-proper (x ∷ live) = (x.filter.proper, are-proper live)

pub listed-sound : (states : List State) (firsts : List First) (live : List Numbered) → record { states = newest states; firsts = firsts } ≡ automata (subscriptions live) → AreLive (subscriptions live) →
    IsSound (record { states = newest states; firsts = firsts })
listed-sound states firsts live e are = subst IsSound (sym e) (automata-sound (subscriptions live) are (are-proper live))

pub listed-few : (states now : List State) (firsts : List First) (most : ℕ) → now ≡ states → IsSound (record { states = newest states; firsts = firsts }) → 500_000 ≤ most → length now ≤ most
listed-few states now firsts most same sound le = let few = sound.few in let long = newest-length states in let e = ap length same in omega arith
