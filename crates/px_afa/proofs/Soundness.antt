-- What is true of the program of live filters.
use Rattle.std.proofs.Common.{List, [], ◌∷◌, sym, subst, arith}
use Rattle.std.proofs.lemmas.Bool.{and_parts}
use Rattle.px_xpath.specs.Histories.{Subscription}
use Rattle.px_xpath.specs.Proper.{has_steps, steps_proper}
use Rattle.px_afa.specs.Building.{automata}
use Rattle.px_afa.specs.Accepting.{HaveSteps}
use Rattle.px_afa.specs.Sound.{AreLive, AreProper, AreRising, IsSound}
use Rattle.px_afa.proofs.FirstStates.{filters-ordered, filters-paths, ids-are}
use Rattle.px_afa.proofs.Sizes.{filters-few}

pub have-steps : (live : List Subscription) → AreProper live → HaveSteps live
have-steps [] h = tt
have-steps (s ∷ live) h = ((and_parts (has_steps s.filter) (steps_proper s.filter) h.0).0, have-steps live h.1)

pub automata-sound : (live : List Subscription) → AreLive live → AreProper live → IsSound (automata live)
automata-sound live is proper = record {
  ordered = filters-ordered live;
  few = let f = filters-few live [] proper in let most = is.few in omega arith;
  paths = filters-paths live (have-steps live proper) [] tt;
  ids_rise = subst AreRising (sym (ids-are live [])) is.ids_rise;
}
