-- A hub without changes: what its passes and its desk keep.
use Rattle.std.proofs.Common.{◌≡◌, ℕ, false, zero, suc, ◌≤◌, ◌<◌, List, [], ◌∷◌, ◌++◌, get_or, map, replicate, length, refl, sym, ap, ◌∙◌, subst, arith}
use Rattle.std.specs.Prelude.{All}
use Rattle.std.proofs.lemmas.List.{length-replicate}
use Rattle.std.specs.Arc.{arc_value}
use mathlib.Core.Option.{some}
use lib.ListN.{get_elem?}
use Rattle.px_xpath.specs.declared.numbered.Numbered.{Numbered}
use Rattle.px_workload.specs.declared.change.Change.{Change}
use Rattle.px_rule.specs.declared.view.Stand.{Stand}
use Rattle.px_rule.specs.declared.view.View.{View}
use Rattle.px_rule.specs.Banks.{stand}
use Rattle.px_rule.specs.Steps.{standing, whole_pass}
use Rattle.px_rule.specs.Table.{TableName, Seated}
use Rattle.px_hub.specs.declared.at_version.AtVersion.{AtVersion}
use Rattle.px_hub.specs.declared.home.Home.TheVariants.{Bank}
use Rattle.px_hub.specs.Beginning.{desk_with, IsNew, AreNew}
use Rattle.px_hub.specs.AllOfThem.{HoldsEvery, AreClosed}
use Rattle.px_hub.specs.Passes.{PassView, pass_view, IsSeen, AreLiveBehind, IsBuilt, IsPass, IsDesk}
use Rattle.px_hub.proofs.Machines.{live_of}

none_seen : (passes : ℕ) → IsSeen passes []
none_seen passes = record { of_passes = λ k d low. absurd (omega arith); is_legal = (tt, omega arith) }

first_stands : (banks : ℕ) → 1 ≤ banks → get_elem? (standing 0 (replicate banks (stand 0 0 0))) 0 ≡ some (0, 0)
first_stands zero h = absurd (omega arith)
first_stands (suc banks) h = refl

versions_of : (banks : ℕ) → replicate banks 0 ≡ map (λ (b : Stand). b.version) (replicate banks (stand 0 0 0))
versions_of zero = refl
versions_of (suc banks) = ap (λ l. 0 ∷ l) (versions_of banks)

all_same : {A : Type 0} (P : A → Type 0) (n : ℕ) (a : A) → P a → All P (replicate n a)
all_same P zero a p k d low = absurd (omega arith)
all_same P (suc n) a p zero d low = p
all_same P (suc n) a p (suc k) d low = all_same P n a p k d (omega arith)

pub new_pass : (table at : TableName) (passes number : ℕ) (filters : List Numbered) (c : AtVersion) (w : View Change) → at ≡ table → number < passes → 1 ≤ table.shape.banks → c.version ≡ 0 → IsBuilt [] c → filters ≡ (arc_value c.live).filters
    → w ≡ whole_pass (desk_with table.shape number) → IsPass table passes at 0 filters c (pass_view number w c.version (Bank 0) false)
new_pass table at passes number filters c w at_is low some_bank version k same is = subst (λ (v : View Change). IsPass table passes at 0 filters c (pass_view number v c.version (Bank 0) false)) (sym is) (record {
  at_table = at_is;
  kind = refl;
  below = low;
  own = refl;
  seen = none_seen passes;
  version_is = refl;
  live = subst (λ l. AreLiveBehind [] l) (sym same) (live_of [] c version k);
  built = k;
  home = (omega arith, (0, first_stands table.shape.banks some_bank ∙ ap (λ (n : ℕ). some (0, n)) (sym version)));
  outside = λ _. refl;
})

pub new_desk : (table : TableName) (passes : ℕ) (seat : Seated Change) (journal : List Change) (versions : List ℕ) (c : AtVersion) → seat.table ≡ table → seat.view ≡ desk_with table.shape passes → journal ≡ []
    → versions ≡ replicate table.shape.banks 0 → IsBuilt [] c → IsDesk table passes seat journal versions c
new_desk table passes seat journal versions c at is none zeros k =
    let v = seat.view in
    record {
      at_table = at;
      kind = ap (λ (u : View Change). u.past.kind) is;
      keeps = ap (λ (u : View Change). u.stay.keeps) is;
      permit = ap (λ (u : View Change). u.past.permit) is;
      seen = ap (λ (u : View Change). u.past.seen) is ∙ sym none;
      made = ap (λ (u : View Change). u.past.made) is;
      stands = record {
        wide = ap length zeros ∙ length-replicate table.shape.banks 0;
        versions_are = zeros ∙ (versions_of table.shape.banks ∙ ap (λ (u : View Change). map (λ (b : Stand). b.version) u.stay.stands) (sym is));
        none_built = subst (λ l. All (λ (b : Stand). b.building ≡ 0) l) (ap (λ (u : View Change). u.stay.stands) (sym is)) (all_same (λ (b : Stand). b.building ≡ 0) table.shape.banks (stand 0 0 0) refl);
      };
      reached = subst (λ l. All (λ (n : ℕ). n ≤ length journal) l) (sym zeros) (all_same (λ (n : ℕ). n ≤ length journal) table.shape.banks 0 (omega arith));
      built = subst (λ l. IsBuilt l c) (sym none) k;
    }

snoc_each : {A : Type 0} (F : ℕ → A → Type 0) (ps : List A) (p : A) → ((k : ℕ) (d : A) → k < length ps → F k (get_or ps k d)) → F (length ps) p → (k : ℕ) (d : A) → k < length (ps ++ p ∷ []) → F k (get_or (ps ++ p ∷ []) k d)
snoc_each F [] p h hp zero d low = hp
snoc_each F [] p h hp (suc k) d low = absurd (omega arith)
snoc_each F (x ∷ xs) p h hp zero d low = h 0 d (omega arith)
snoc_each F (x ∷ xs) p h hp (suc k) d low = snoc_each (λ j. F (suc j)) xs p (λ j e l. h (suc j) e (omega arith)) hp k d (omega arith)

pub new_more : (ps now : List PassView) (p : PassView) (n : ℕ) → now ≡ ps ++ p ∷ [] → length ps ≡ n → AreNew ps → IsNew n p → AreNew now
new_more ps now p n is long old new = subst (λ l. AreNew l) (sym is) (snoc_each IsNew ps p old (subst (λ (m : ℕ). IsNew m p) (sym long) new))

-- passes with numbers in order are all passes
pub every_new : (passes : ℕ) (ps : List PassView) → length ps ≡ passes → AreNew ps → HoldsEvery passes ps
every_new passes ps long new k low = (k, omega arith, λ d. (new k d (omega arith)).0)

-- with no call open
pub closed_new : (ps : List PassView) → AreNew ps → AreClosed ps
closed_new ps new k d low = (new k d low).5
