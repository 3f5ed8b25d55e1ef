use Rattle.std.proofs.Common.{◌≡◌, ◌≢◌, ℕ, zero, suc, ◌+◌, ◌-◌, ◌%◌, ◌^◌, ◌<◌, ◌≤◌, Bool, true, false, cond, eqb, leb, List, [], ◌∷◌, ◌++◌, length, set, refl, sym, ap, ◌∙◌, subst, arith, eq-eqb, ne_eqb, le-leb, leb-true, leb-false}
use Rattle.std.specs.Prelude.{slice_index, slice_set}
use Rattle.std.proofs.lemmas.Bool.{lt-leb}
use mathlib.Core.Logic.{dite}
use mathlib.Core.Option.{some, some-ne-none, some-injective}
use native.Mathlib.Decide.{ℕ_discrete, dec_lt}
use lib.ListN.{get_elem?}
use Rattle.atomic_table.specs.Table.{Me, Allows, Splits, Joins, keeps}
use Rattle.atomic_table.proofs.Lists.{at_set, set_again}
use Rattle.px_rule.specs.Banks.{total, one_if}
use Rattle.px_rule.proofs.Views.{total_set, total_snoc, total_le, part_le, each_set, each_snoc}
use Rattle.px_crew.proofs.Parts.{total-append, sole}
use Rattle.px_crew.specs.declared.rule.Hand.{Hand}
use Rattle.px_crew.specs.declared.rule.Quota.{Quota}
use Rattle.px_crew.specs.Drawn.{hand, times, once_below, AllBelow, Fits, Given, Drew, Learnt}

-- a number that stands nowhere unless it is below n, at most once
all_below : (n : ℕ) (ys : List ℕ) → ((x : ℕ) → times x ys ≤ once_below x n) → AllBelow n ys
all_below n [] few = tt
all_below n (y ∷ ys) few =
    let t : one_if (eqb y y) ≡ 1 = ap one_if (eq-eqb y y refl) in
    let f = few y in
    (dite (dec_lt y n) (λ low. low) (λ high. let z : once_below y n ≡ 0 = ap one_if (lt-leb (suc y) n (omega arith)) in absurd (omega arith)), all_below n ys (λ x. let g = few x in omega arith))

-- one more number
below_more : (x n : ℕ) → once_below x n + one_if (eqb n x) ≡ once_below x (n + 1)
below_more x n = dite (ℕ_discrete n x)
    (λ e. let a : leb (suc x) n ≡ false = lt-leb (suc x) n (omega arith) in let b : eqb n x ≡ true = eq-eqb n x e in let c : leb (suc x) (n + 1) ≡ true = le-leb (suc x) (n + 1) (omega arith) in
    (λ i. one_if (a i) + one_if (b i)) ∙ ap one_if (sym c))
    (λ apart. let b : eqb n x ≡ false = ne_eqb n x apart in dite (dec_lt x n)
    (λ low. let a : leb (suc x) n ≡ true = le-leb (suc x) n (omega arith) in let c : leb (suc x) (n + 1) ≡ true = le-leb (suc x) (n + 1) (omega arith) in (λ i. one_if (a i) + one_if (b i)) ∙ ap one_if (sym c))
    (λ high. let a : leb (suc x) n ≡ false = lt-leb (suc x) n (omega arith) in let c : leb (suc x) (n + 1) ≡ false = lt-leb (suc x) (n + 1) (omega arith) in (λ i. one_if (a i) + one_if (b i)) ∙ ap one_if (sym c)))

pub draws : (quota : Quota) (slots id : ℕ) (me : Me (Unit {0}) Hand) → quota.limit + quota.parts + 1 < 2 ^ 64 → 0 < me.0.parts → me.0.ends ≡ 0 → Allows (Given quota) slots id me 0 (λ n. (n + 1) % 2 ^ 64) (λ n after. Drew quota me.0 n after.0 × (after.1 ≡ me.1))
draws quota slots id me small some_part on s g _ at _ =
    let v = me.0 in
    let n : ℕ = slice_index s.words 0 in
    let is : n ≡ g.word = ap (λ (ws : List ℕ). slice_index ws 0) g.words in
    let w = hand v.parts (v.drawn ++ n ∷ []) (v.ends + one_if (leb quota.limit n)) in
    let all_ends = total_le (λ (u : Hand). u.ends) (λ (u : Hand). u.parts) s.views (λ i u e. (g.each i u e).0) in
    let room : n + 1 < 2 ^ 64 = let a = g.bound in let b = g.parts in omega arith in
    let over_limit : 0 < v.ends + one_if (leb quota.limit n) → quota.limit < n + 1 = λ some.
    dite (dec_lt n quota.limit) (λ low. let z : one_if (leb quota.limit n) ≡ 0 = ap one_if (lt-leb quota.limit n (omega arith)) in absurd (omega arith)) (λ high. omega arith) in
    let bit_le : one_if (leb quota.limit n) ≤ 1 = elim (leb quota.limit n) as (λ t. one_if t ≤ 1) [ true ↦ omega arith | false ↦ omega arith ] in (
      w,
      keeps,
      tt,
      record {
        word = n + 1;
        words = ap (λ (ws : List ℕ). slice_set ws 0 ((slice_index ws 0 + 1) % 2 ^ 64)) g.words ∙ ap (λ (m : ℕ). m ∷ []) (let r : (g.word + 1) % 2 ^ 64 ≡ n + 1 = omega arith in r);
        parts = let t = total_set (λ (u : Hand). u.parts) s.views id v w at in let p = g.parts in omega arith;
        once = λ x. let t = total_set (λ (u : Hand). times x u.drawn) s.views id v w at in
            let more : times x w.drawn ≡ times x v.drawn + (one_if (eqb n x) + 0) = total-append (λ (y : ℕ). one_if (eqb y x)) v.drawn (n ∷ []) in
            let o : total (λ (u : Hand). times x u.drawn) s.views ≡ once_below x n = g.once x ∙ ap (once_below x) (sym is) in let m = below_more x n in omega arith;
        bound = let t = total_set (λ (u : Hand). u.ends) s.views id v w at in let b = g.bound in
            dite (dec_lt n quota.limit) (λ low. omega arith) (λ high. let y : one_if (leb quota.limit n) ≡ 1 = ap one_if (le-leb quota.limit n (omega arith)) in omega arith);
        each = each_set (λ i u. Fits quota.limit (n + 1) u) s.views id w (λ j u _ e. let f = g.each j u e in (f.0, f.1, λ some. let m = f.2 some in omega arith)) (omega arith, (λ z. absurd (omega arith)), over_limit);
      },
      (record { hand_is = refl; above = all_below n v.drawn (λ x. let l = part_le (λ (u : Hand). times x u.drawn) s.views id v at in let o : total (λ (u : Hand). times x u.drawn) s.views ≡ once_below x n = g.once x ∙ ap (once_below x) (sym is) in omega arith) }, refl),
    )

pub cuts : (quota : Quota) (id : ℕ) (v : Hand) → 1 < v.parts → v.ends ≡ 0 → Splits (Given quota) id v (hand (v.parts - 1) v.drawn v.ends) (hand 1 [] 0)
cuts quota id v two on s g at = let l = hand (v.parts - 1) v.drawn v.ends in let r = hand 1 [] 0 in record {
  word = g.word;
  words = g.words;
  parts = let t = total_set (λ (u : Hand). u.parts) s.views id v l at in let q = total_snoc (λ (u : Hand). u.parts) (set s.views id l) r in let p = g.parts in omega arith;
  once = λ x. let t = total_set (λ (u : Hand). times x u.drawn) s.views id v l at in let q = total_snoc (λ (u : Hand). times x u.drawn) (set s.views id l) r in let p = g.once x in omega arith;
  bound = let t = total_set (λ (u : Hand). u.ends) s.views id v l at in let q = total_snoc (λ (u : Hand). u.ends) (set s.views id l) r in let p = g.bound in omega arith;
  each = each_snoc (λ i u. Fits quota.limit g.word u) (set s.views id l) r
      (each_set (λ i u. Fits quota.limit g.word u) s.views id l (λ j u _ e. g.each j u e) (omega arith, (λ z. absurd (omega arith)), λ some. absurd (omega arith)))
      (omega arith, (λ z. refl), λ some. absurd (omega arith));
}

one_ended : (a b limit word : ℕ) → (0 < a → limit < word) → (0 < b → limit < word) → 0 < a + b → limit < word
one_ended zero b limit word f g any = g (omega arith)
one_ended (suc a) b limit word f g any = f (omega arith)

pub joins : (quota : Quota) (id : ℕ) (v : Hand) (other : ℕ) (u : Hand) → Joins (Given quota) id v other u (hand (v.parts + u.parts) (v.drawn ++ u.drawn) (v.ends + u.ends)) (hand 0 [] 0)
joins quota id v other u s g at apart there = let b = hand (v.parts + u.parts) (v.drawn ++ u.drawn) (v.ends + u.ends) in let z = hand 0 [] 0 in
    let there' : get_elem? s.views other ≡ some u = Rattle.std.proofs.Common.⊎_elim (λ (t : (other ≡ id) × (b ≡ u)). absurd (apart t.0)) (λ (t : (other ≢ id) × (get_elem? s.views other ≡ some u)). t.1) (at_set s.views id other b u there) in
    let F : ℕ → Hand → Type 0 = λ i u. Fits quota.limit g.word u in
    let f = g.each id v at in let f' = g.each other u there' in record {
      word = g.word;
      words = g.words;
      parts = let t = total_set (λ (u : Hand). u.parts) s.views id v b at in let q = total_set (λ (u : Hand). u.parts) (set s.views id b) other u z there in let p = g.parts in omega arith;
      once = λ x. let t = total_set (λ (u : Hand). times x u.drawn) s.views id v b at in let q = total_set (λ (u : Hand). times x u.drawn) (set s.views id b) other u z there in let p = g.once x in
          let a = total-append (λ (y : ℕ). one_if (eqb y x)) v.drawn u.drawn in omega arith;
      bound = let t = total_set (λ (u : Hand). u.ends) s.views id v b at in let q = total_set (λ (u : Hand). u.ends) (set s.views id b) other u z there in let p = g.bound in omega arith;
      each = each_set F (set s.views id b) other z (λ j x _ e. each_set F s.views id b (λ j x _ e. g.each j x e)
          (let a = f.0 in let c = f'.0 in (omega arith, (λ e. (λ i. f.1 (let q : v.parts ≡ 0 = omega arith in q) i ++ f'.1 (let q : u.parts ≡ 0 = omega arith in q) i)), λ some. one_ended v.ends u.ends quota.limit g.word f.2 f'.2 some)) j x e) (omega arith, (λ _. refl), λ some. absurd (omega arith));
    }

pub learns : (quota : Quota) (slots id : ℕ) (me : Me (Unit {0}) Hand) → Allows (Given quota) slots id me 0 (λ n. n) (λ n after. Learnt quota me.0 n after.0 × (after.1 ≡ me.1))
learns quota slots id me s g _ at _ =
    let v = me.0 in
    let n : ℕ = slice_index s.words 0 in
    let is : n ≡ g.word = ap (λ (ws : List ℕ). slice_index ws 0) g.words in
    let same = set_again s.views id v at in (
      v,
      keeps,
      tt,
      record {
        word = g.word;
        words = ap (λ (ws : List ℕ). slice_set ws 0 (slice_index ws 0)) g.words;
        parts = ap (total (λ (u : Hand). u.parts)) same ∙ g.parts;
        once = λ x. ap (total (λ (u : Hand). times x u.drawn)) same ∙ g.once x;
        bound = subst (λ l. g.word ≤ quota.limit + total (λ (u : Hand). u.ends) l) (sym same) g.bound;
        each = λ i u e. g.each i u (subst (λ l. get_elem? l i ≡ some u) same e);
      },
      ((refl, λ all x. sym (sole (λ (u : Hand). u.parts) (λ (u : Hand). times x u.drawn) s.views id v (λ j u e z. ap (times x) ((g.each j u e).1 z)) at (g.parts ∙ sym all)) ∙ (g.once x ∙ ap (once_below x) (sym is)), λ some. subst (λ m. quota.limit < m) (sym is) ((g.each id v at).2 some)), refl),
    )
