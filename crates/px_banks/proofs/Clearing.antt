-- A bank is cleared place by place.
use Rattle.std.proofs.Common.{◌≡◌, ℕ, ◌+◌, List, sym, ap, ◌∙◌}
use Rattle.std.proofs.lemmas.List.{set-set}
use mathlib.Core.Option.{some}
use lib.ListN.{get_elem?}
use Rattle.atomic_table.proofs.Lists.{set_again, set_here}
use Rattle.px_rule.specs.declared.view.Stand.{Stand}
use Rattle.px_rule.specs.declared.view.View.{View}
use Rattle.px_rule.specs.Banks.{stand}
use Rattle.px_rule.specs.Steps.{restood, Zeroed}
use Rattle.px_rule.proofs.Views.{below, same_at}
use Rattle.px_banks.specs.Answers.{IsCleared, taken}

module _ {E : Type 0} where
  abbrev with_stands : View E → List Stand → View E
  with_stands v l = record v { stay = record v.stay { stands = l } }

  pub none_yet : (k : ℕ) (v : View E) (b : Stand) → get_elem? v.stay.stands k ≡ some b → b.zeroed ≡ 0 → IsCleared k 0 v v
  none_yet k v b here zero a has =
      let none : a.zeroed ≡ 0 = ap (λ (c : Stand). c.zeroed) (same_at v.stay.stands k a b has here) ∙ zero in
      ap (with_stands v) (sym (set_again v.stay.stands k a has)) ∙ ap (λ (m : ℕ). restood k (record a { zeroed = m }) v) none

  pub at_now : (k n : ℕ) (v w : View E) (a : Stand) → get_elem? v.stay.stands k ≡ some a → IsCleared k n v w → get_elem? w.stay.stands k ≡ some (record a { zeroed = n })
  at_now k n v w a has z = ap (λ (u : View E). get_elem? u.stay.stands k) (z a has) ∙ set_here v.stay.stands k (record a { zeroed = n }) (below v.stay.stands k a has)

  pub one_more : (k n : ℕ) (v w w' : View E) → IsCleared k n v w → Zeroed k w w' → IsCleared k (n + 1) v w'
  one_more k n v w w' z step a has =
      let b : Stand = record a { zeroed = n } in
      let c : Stand = record a { zeroed = n + 1 } in
      step b (at_now k n v w a has z) ∙ (ap (λ (u : View E). restood k c u) (z a has) ∙ ap (with_stands v) (set-set v.stay.stands k b c))

  -- the bank that was taken
  pub taken_at : (k new : ℕ) (v w : View E) (a : Stand) → get_elem? v.stay.stands k ≡ some a → w ≡ taken k new v → get_elem? w.stay.stands k ≡ some (stand new 1 0)
  taken_at k new v w a has e = ap (λ (u : View E). get_elem? u.stay.stands k) e ∙ set_here v.stay.stands k (stand new 1 0) (below v.stay.stands k a has)
