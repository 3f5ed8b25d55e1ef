-- Two passes of which each has met a note of the other.
use Rattle.std.proofs.Common.{◌≡◌, ℕ, ◌≤◌, ◌⊎◌, inl, inr, List, ◌++◌, length, sym, ◌∙◌, subst}
use Rattle.px_workload.specs.declared.change.Change.{Change}
use Rattle.px_rule.specs.Histories.{Begins}
use Rattle.px_rule.proofs.Beginnings.{begins_more, begins_length, begins_whole}
use Rattle.px_hub.specs.Passes.{PassView}
use Rattle.px_hub.specs.Calls.{seen_of, Refreshed, Met}
use Rattle.px_delta.specs.Deltas.{delta_view, Rebased}

-- the front has met a note of the base, which had met a note of the front: both have seen the same
same_seen : (front base : List Change) (seen others all : List Change) → Begins front seen → base ≡ seen ++ others → Begins base all → (all ≡ front) ⊎ (all ≡ base) → all ≡ base
same_seen front base seen others all noted grown met (inr e) = e
same_seen front base seen others all noted grown met (inl e) =
    let on : Begins front base = subst (Begins front) (sym grown) (begins_more front seen others noted) in
    begins_whole base all met (subst (λ (xs : List Change). length xs ≤ length base) (sym e) (begins_length front base on))

pub rebased : (banks first version : ℕ) (v w p q u x : PassView) → Refreshed banks first w q → Met (seen_of q) v p → Refreshed banks version p u → Met (seen_of u) q x →
    Rebased banks version (delta_view v w) (delta_view u x)
rebased banks first version v w p q u x refreshed met renewed last = record {
  front = q;
  base = p;
  front_refreshed = (first, refreshed);
  base_met = met;
  base_refreshed = renewed;
  front_met = last;
  base_mine = renewed.came.mine ∙ met.mine;
  front_mine = last.mine ∙ refreshed.came.mine;
  same = same_seen (seen_of q) (seen_of u) (seen_of p) renewed.came.others (seen_of x) met.noted renewed.came.seen last.noted last.longer;
  version_is = renewed.version_is;
  have = renewed.have;
}
