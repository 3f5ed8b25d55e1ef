-- Trying banks one after another.
use Rattle.std.proofs.Common.{◌≡◌, ◌≢◌, ℕ, zero, suc, ◌≤◌, ◌<◌, inl, inr, true, false, leb, leb-true, leb-false, eqb, eq-eqb, ne_eqb, List, [], ◌∷◌, map, set, get_or, length, Some, None, refl, sym, ap, ◌∙◌, subst, arith}
use Rattle.std.specs.Prelude.{All, slice_index}
use Rattle.std.proofs.lemmas.List.{length-set, length-map, map-set}
use Rattle.std.proofs.lemmas.List.Elements.{All-set}
use mathlib.Core.Logic.{dite}
use native.Mathlib.Decide.{ℕ_discrete}
use mathlib.Core.Option.{some, some-ne-none, some-injective}
use lib.ListN.{get_elem?}
use Rattle.atomic_table.proofs.Lists.{set_here}
use Rattle.px_rule.specs.declared.view.Stand.{Stand}
use Rattle.px_rule.specs.declared.view.Stay.{Stay}
use Rattle.px_rule.specs.declared.view.View.{View}
use Rattle.px_rule.specs.Words.{count_of}
use Rattle.px_rule.specs.Banks.{total, one_if, stand}
use Rattle.px_rule.specs.Steps.{restood}
use Rattle.px_rule.proofs.Views.{there, all_at, total_set}
use Rattle.px_banks.specs.Answers.{noted}
use Rattle.px_hub.specs.declared.home.Home.TheVariants.{Bank, NoBank}
use Rattle.px_hub.specs.Banking.{AreStands, IsNext, IsStanding, AreTried, ClaimsGive, GivesHome}

pub index_at : (xs : List ℕ) (k w : ℕ) → get_elem? xs k ≡ some w → slice_index xs k ≡ w
index_at [] k w e = absurd (some-ne-none w (sym e))
index_at (x ∷ xs) zero w e = some-injective x w e
index_at (x ∷ xs) (suc k) w e = index_at xs k w e

index_here : (xs : List ℕ) (k x : ℕ) → k < length xs → slice_index (set xs k x) k ≡ x
index_here [] k x h = absurd (omega arith)
index_here (y ∷ ys) zero x h = refl
index_here (y ∷ ys) (suc k) x h = index_here ys k x (omega arith)

index_else : (xs : List ℕ) (k j x : ℕ) → j ≢ k → slice_index (set xs k x) j ≡ slice_index xs j
index_else [] k j x n = refl
index_else (y ∷ ys) zero zero x n = absurd (n refl)
index_else (y ∷ ys) zero (suc j) x n = refl
index_else (y ∷ ys) (suc k) zero x n = refl
index_else (y ∷ ys) (suc k) (suc j) x n = index_else ys k j x (λ e. n (ap suc e))

same_default : (xs : List ℕ) (k d : ℕ) → k < length xs → get_or xs k d ≡ slice_index xs k
same_default [] k d h = absurd (omega arith)
same_default (x ∷ xs) zero d h = refl
same_default (x ∷ xs) (suc k) d h = same_default xs k d (omega arith)

map_index : (stands : List Stand) (k : ℕ) (x : Stand) → get_elem? stands k ≡ some x → slice_index (map (λ (b : Stand). b.version) stands) k ≡ x.version
map_index [] k x e = absurd (some-ne-none x (sym e))
map_index (y ∷ ys) zero x e = ap (λ (b : Stand). b.version) (some-injective y x e)
map_index (y ∷ ys) (suc k) x e = map_index ys k x e

-- the bank at a place
pub stand_at : (banks : ℕ) (versions : List ℕ) (stands : List Stand) (k : ℕ) → AreStands banks versions stands → k < length versions
    → (x : Stand) × (get_elem? stands k ≡ some x) × (x.version ≡ slice_index versions k) × (x.building ≡ 0)
stand_at banks versions stands k a low =
    let long : length versions ≡ length stands = ap length a.versions_are ∙ length-map stands (λ (b : Stand). b.version) in
    let t = there stands k (omega arith) in
    (t.0, t.1, sym (ap (λ l. slice_index l k) a.versions_are ∙ map_index stands k t.0 t.1), all_at (λ (b : Stand). b.building ≡ 0) stands k t.0 t.1 a.none_built)

pub stands_set : (banks : ℕ) (versions : List ℕ) (stands now : List Stand) (k n size : ℕ) → AreStands banks versions stands → now ≡ set stands k (stand n 0 size) → AreStands banks (set versions k n) now
stands_set banks versions stands now k n size a e = subst (λ l. AreStands banks (set versions k n) l) (sym e) (record {
  wide = length-set versions k n ∙ a.wide;
  versions_are = ap (λ l. set l k n) a.versions_are ∙ sym (map-set (λ (b : Stand). b.version) stands k (stand n 0 size));
  none_built = All-set (λ (b : Stand). b.building ≡ 0) stands k (stand n 0 size) refl a.none_built;
})

-- none stands at the newest version, so all stand below it
pub older : (versions : List ℕ) (n : ℕ) → All (λ m. m ≤ n) versions → IsStanding versions n None → All (λ m. m < n) versions
older versions n reached none k d low =
    let m : ℕ = get_or versions k d in
    let most : m ≤ n = reached k d low in
    let other : m ≢ n = λ e. none k low (sym (same_default versions k d low) ∙ e) in
    elim (leb (suc m) n) as (λ t. leb (suc m) n ≡ t → m < n) [ true ↦ (λ e. leb-true (suc m) n e) | false ↦ (λ e. let l = leb-false (suc m) n e in let same : m ≡ n = omega arith in absurd (other same)) ] refl

-- one word fewer is 0
pub fewer : (words : List ℕ) (k x : ℕ) → k < length words → slice_index words k ≡ 0 → 0 < count_of x → suc (total (λ (w : ℕ). one_if (eqb w 0)) (set words k x)) ≤ total (λ (w : ℕ). one_if (eqb w 0)) words
fewer words k x low zero_is more =
    let t = there words k low in
    let none : t.0 ≡ 0 = sym (index_at words k t.0 t.1) ∙ zero_is in
    let s = total_set (λ (w : ℕ). one_if (eqb w 0)) words k t.0 x t.1 in
    let some_x : x ≢ 0 = λ e. let none : 0 < count_of 0 = subst (λ (y : ℕ). 0 < count_of y) e more in omega arith in
    let a : one_if (eqb t.0 0) ≡ 1 = ap one_if (eq-eqb t.0 0 none) in
    let b : one_if (eqb x 0) ≡ 0 = ap one_if (ne_eqb x 0 some_x) in
    omega arith

module _ {E : Type 0} where
  pub tried_more : (n k x : ℕ) (words : List ℕ) (v u w : View E) → u.past ≡ v.past → w ≡ noted k n x u → k < length words → AreTried n v.past.asker v.past.asker_loads words u.stay
      → AreTried n v.past.asker v.past.asker_loads (set words k x) w.stay
  tried_more n k x words v u w past is low tried j within some_word =
      dite (ℕ_discrete j k)
      (λ (yes : j ≡ k). (
        0,
        ap (λ (y : View E). get_elem? y.stay.busy 0) is
            ∙ (λ i. some (record { bank = sym yes i; new = n; word = (sym (index_here words k x low) ∙ ap (slice_index (set words k x)) (sym yes)) i; pass = (past i).asker; loads = (past i).asker_loads })),
      ))
      (λ (no : j ≢ k).
      let same = index_else words k j x no in
      let r = tried j (let l = length-set words k x in omega arith) (λ e. some_word (same ∙ e)) in
      (suc r.0, ap (λ (y : View E). get_elem? y.stay.busy (suc r.0)) is ∙ (r.1 ∙ (λ i. some (record { bank = j; new = n; word = sym same i; pass = v.past.asker; loads = v.past.asker_loads })))))

  pub claims_end : (size n k : ℕ) (versions words : List ℕ) (v u w : View E) → IsNext versions words (length versions) (Some k) → length words ≡ length versions → u.stay.stands ≡ v.stay.stands
      → AreTried n v.past.asker v.past.asker_loads words u.stay → w ≡ restood k (stand n 0 size) u → ClaimsGive versions n v.past.asker v.past.asker_loads size v.stay w.stay words (Some k)
  claims_end size n k versions words v u w next long stands tried is = (
    next.0,
    ap (λ (y : View E). y.stay.stands) is ∙ ap (λ l. set l k (stand n 0 size)) stands,
    λ j low early.
        let found = tried j (omega arith) (λ none. next.2 j low none early) in
        (slice_index words j, (found.0, ap (λ (y : View E). get_elem? y.stay.busy found.0) is ∙ found.1)),
  )

-- what the desk knew of the banks, and knows then
module _ (banks n pass loads : ℕ) (versions : List ℕ) (v w : Stay) where
  pub home_standing : (k : ℕ) → AreStands banks versions v.stands → IsStanding versions n (Some k) → GivesHome versions n pass loads banks v (Bank k)
  home_standing k a s =
      let x = stand_at banks versions v.stands k a s.0 in
      let wide = a.wide in
      let low = s.0 in
      (omega arith, (x.0, x.1, x.2 ∙ s.1, x.3), inl s)

  pub home_renewed : (size k : ℕ) (words : List ℕ) → AreStands banks versions v.stands → IsStanding versions n None → ClaimsGive versions n pass loads size v w words (Some k) → GivesHome versions n pass loads banks w (Bank k)
  home_renewed size k words a none c =
      let wide = a.wide in
      let low = c.0 in
      let long : length versions ≡ length v.stands = ap length a.versions_are ∙ length-map v.stands (λ (b : Stand). b.version) in
      (omega arith, (stand n 0 size, ap (λ l. get_elem? l k) c.1 ∙ set_here v.stands k (stand n 0 size) (omega arith), refl, refl), inr (none, c.2))

  pub home_none : (size : ℕ) (words words' : List ℕ) → AreStands banks versions v.stands → length words ≡ banks → words' ≡ words → ClaimsGive versions n pass loads size v w words None → GivesHome versions n pass loads banks w (NoBank words')
  home_none size words words' a long same c =
      let wide = a.wide in
      subst (λ l. GivesHome versions n pass loads banks w (NoBank l)) (sym same) (long, λ k low. c.1 k (omega arith))
