-- Claiming, zeroing and publishing a bank.
use Rattle.std.proofs.Common.{◌≡◌, ◌≢◌, ℕ, ◌+◌, ◌<◌, ◌≤◌, Bool, true, cond, eqb, List, ◌∷◌, set, refl, sym, ap, ◌∙◌, subst, arith, eq-eqb, ne_eqb, ⊎_elim, length-set}
use Rattle.std.specs.Prelude.{All, bit_and}
use Rattle.std.proofs.lemmas.List.Elements.{All-cons, All-weaker}
use mathlib.Core.Logic.{dite}
use mathlib.Core.Option.{some}
use native.Mathlib.Decide.{ℕ_discrete}
use lib.ListN.{get_elem?}
use prog.Atomic.{either}
use Rattle.atomic_table.proofs.Lists.{at_set, set_here, set_else}
use Rattle.px_rule.specs.declared.view.Place.{Place}
use Rattle.px_rule.specs.declared.view.Place.TheVariants.{Outside, Inside, Stray}
use Rattle.px_rule.specs.declared.view.Stand.{Stand}
use Rattle.px_rule.specs.declared.view.Busy.{Busy}
use Rattle.px_rule.specs.declared.view.Stay.{Stay}
use Rattle.px_rule.specs.Words.{packed, count_of, mask}
use Rattle.px_rule.specs.Banks.{one_if, in_bank, count, Reached, Where, IsBusy, StayFits, Banks, Turned, stand}
use Rattle.px_rule.specs.Steps.{claimed}
use Rattle.px_rule.proofs.BankWords.{count_packed, published}
use Rattle.px_rule.proofs.Views.{total_set, part_le, each_set, below, same_at}
use Rattle.px_rule.proofs.EnterLeave.{tells, counted}

module _ (top : ℕ) (word : ℕ → ℕ) (stands : List Stand) (desk made : ℕ) (views : List Stay) (b : Banks top word stands desk made views) where
  -- The desk gives bank k another state
  restands : (word' : ℕ → ℕ) (id k : ℕ) (v : Stay) (a a' : Stand) (given : List Stand) (busy : List Busy) → get_elem? views id ≡ some v → v.keeps ≡ true → get_elem? stands k ≡ some a
      → given ≡ set stands k a' → All IsBusy busy
      → ((j : ℕ) → j ≢ k → word' j ≡ word j) → (word' k ≡ packed a'.version a'.building (count k views)) → a'.version ≤ top → a'.building ≤ 1
      → ((j : ℕ) (c : Stand) → j ≢ k → get_elem? stands j ≡ some c → a'.building ≡ 1 → c.building ≡ 1 → ⊥)
      → ((i n : ℕ) (u : Stay) → get_elem? views i ≡ some u → u.place ≡ Inside k n → a.version ≡ n → a.building ≡ 0 → (a'.version ≡ n) × (a'.building ≡ 0))
      → ((n : ℕ) → n ≤ a.version → (n ≡ a.version → a.building ≡ 0) → (n ≤ a'.version) × (n ≡ a'.version → a'.building ≡ 0))
      → Banks top word' (set stands k a') desk made (set views id (record v { stands = given; busy = busy }))
  restands word' id k v a a' given busy at keeps has is all_busy others here low bit alone inside reached =
      let w : Stay = record v { stands = given; busy = busy } in
      let new : List Stand = set stands k a' in
      let known = below stands k a has in
      let count_is : (j : ℕ) → count j (set views id w) ≡ count j views = λ j. let t = total_set (λ (u : Stay). in_bank j u.place) views id v w at in omega arith in
      let moved : (s : ℕ × ℕ) → Reached stands s → Reached new s = λ s r. dite (ℕ_discrete s.0 k)
      (λ yes. let same : r.0 ≡ a = same_at stands k r.0 a (subst (λ (i : ℕ). get_elem? stands i ≡ some r.0) yes r.1) has in
      let x = reached s.1 (subst (λ (c : Stand). s.1 ≤ c.version) same r.2) (λ e. subst (λ (c : Stand). c.building ≡ 0) same (r.3 (e ∙ sym (ap (λ (c : Stand). c.version) same)))) in
      (a', subst (λ (i : ℕ). get_elem? new i ≡ some a') (sym yes) (set_here stands k a' known), x.0, x.1))
      (λ no. (r.0, set_else stands k s.0 a' no ∙ r.1, r.2, r.3)) in
      let stays_put : (i : ℕ) (u : Stay) → get_elem? views i ≡ some u → (p : Place) → u.place ≡ p → Where stands p → Where new p = λ i u e p. elim p as (λ p. u.place ≡ p → Where stands p → Where new p) [
        | Outside ↦ (λ _ _. tt)
        | Inside j n ↦ (λ q h. dite (ℕ_discrete j k)
            (λ yes. let same : h.0 ≡ a = same_at stands k h.0 a (subst (λ (i : ℕ). get_elem? stands i ≡ some h.0) yes h.1) has in
            let x = inside i n u e (q ∙ ap (λ (m : ℕ). Inside m n) yes) (ap (λ (c : Stand). c.version) (sym same) ∙ h.2) (ap (λ (c : Stand). c.building) (sym same) ∙ h.3) in
            (a', subst (λ (i : ℕ). get_elem? new i ≡ some a') (sym yes) (set_here stands k a' known), x.0, x.1))
            (λ no. (h.0, set_else stands k j a' no ∙ h.1, h.2, h.3)))
        | Stray j ↦ (λ _ h. subst (λ (m : ℕ). j < m) (sym (length-set stands k a')) h)
      ] in
      let f = b.each id v at in
      record {
        words = λ j c e. ⊎_elim
            (λ (x : (j ≡ k) × (a' ≡ c)). (
              ap word' x.0 ∙ (here ∙ ((λ i. packed (x.1 i).version (x.1 i).building (count k views)) ∙ ap (packed c.version c.building) (sym (count_is k) ∙ ap (λ (i : ℕ). count i (set views id w)) (sym x.0)))),
              subst (λ (c : Stand). c.version ≤ top) x.1 low,
              subst (λ (c : Stand). c.building ≤ 1) x.1 bit,
            ))
            (λ (x : (j ≢ k) × (get_elem? stands j ≡ some c)). let y = b.words j c x.1 in (others j x.0 ∙ (y.0 ∙ ap (packed c.version c.building) (sym (count_is j))), y.1, y.2))
            (at_set stands k j a' c e);
        one = λ i j c d e f p q. ⊎_elim
            (λ (x : (i ≡ k) × (a' ≡ c)). ⊎_elim (λ (y : (j ≡ k) × (a' ≡ d)). x.0 ∙ sym y.0) (λ (y : (j ≢ k) × (get_elem? stands j ≡ some d)). absurd (alone j d y.0 y.1 (ap (λ (z : Stand). z.building) x.1 ∙ p) q)) (at_set stands k j a' d f))
            (λ (x : (i ≢ k) × (get_elem? stands i ≡ some c)). ⊎_elim (λ (y : (j ≡ k) × (a' ≡ d)). absurd (alone i c x.0 x.1 (ap (λ (z : Stand). z.building) y.1 ∙ q) p)) (λ (y : (j ≢ k) × (get_elem? stands j ≡ some d)). b.one i j c d x.1 y.1 p q) (at_set stands k j a' d f))
            (at_set stands k i a' c e);
        few = let t = total_set (λ (u : Stay). one_if u.walks) views id v w at in let l = b.few.0 in (omega arith, b.few.1);
        each = each_set (λ j u. StayFits new desk j u) views id w
            (λ j u apart e. let g = b.each j u e in record {
              out = g.out;
              where_is = stays_put j u e u.place refl g.where_is;
              stays = All-weaker (Reached stands) (Reached new) moved u.stays g.stays;
              busy = g.busy;
              keeper = λ h. absurd (apart ((g.keeper h).0 ∙ sym (f.keeper keeps).0));
            })
            (record {
              out = f.out;
              where_is = stays_put id v at v.place refl f.where_is;
              stays = All-weaker (Reached stands) (Reached new) moved v.stays f.stays;
              busy = all_busy;
              keeper = λ h. ((f.keeper keeps).0, is);
            });
      }

  -- a word that is not free has calls inside
  pub inside_some : (k old : ℕ) (a : Stand) → get_elem? stands k ≡ some a → a.version ≡ old → a.building ≡ 0 → word k ≢ packed old 0 0 → 0 < count_of (word k)
  inside_some k old a has is_old is_free miss =
      let x = b.words k a has in let c = tells top word stands desk made views b k a has in let full : word k ≡ packed old 0 (count k views) = x.0 ∙ (λ i. packed (is_old i) (is_free i) (count k views)) in
      dite (ℕ_discrete (count k views) 0) (λ zero_in. absurd (miss (full ∙ ap (packed old 0) zero_in))) (λ some_in. let e = c.2 in omega arith)

  -- A claim takes bank k exactly where no call is inside
  pub claims : (word' : ℕ → ℕ) (id k old new pass loads : ℕ) (v : Stay) (a : Stand) → get_elem? views id ≡ some v → v.keeps ≡ true → get_elem? v.stands k ≡ some a → a.version ≡ old → a.building ≡ 0
      → ((j : ℕ) (c : Stand) → get_elem? v.stands j ≡ some c → c.building ≡ 0) → old < new → new ≤ top
      → Turned word word' k (either (eqb (word k) (packed old 0 0)) (packed new 1 0) (word k))
      → Banks top word' (cond (eqb (word k) (packed old 0 0)) (set stands k (stand new 1 0)) stands) desk made (set views id (claimed k old new pass loads (word k) v))
  claims word' id k old new pass loads v a at keeps has_v is_old is_free none_built up fits turn =
      let f = b.each id v at in
      let same : v.stands ≡ stands = (f.keeper keeps).1 in
      let has : get_elem? stands k ≡ some a = subst (λ (l : List Stand). get_elem? l k ≡ some a) same has_v in
      let t = tells top word stands desk made views b k a has in
      dite (ℕ_discrete (word k) (packed old 0 0))
      (λ hit.
      let empty : count k views ≡ 0 = sym t.2 ∙ (ap count_of hit ∙ count_packed old 0 0 (omega arith) (omega arith)) in
      let G : Bool → Type 0 = λ h. word' k ≡ either h (packed new 1 0) (word k)
      → Banks top word' (cond h (set stands k (stand new 1 0)) stands) desk made (set views id (cond h (record v { stands = set v.stands k (stand new 1 0) }) (record v { busy = record { bank = k; new = new; word = word k; pass = pass; loads = loads } ∷ v.busy }))) in
      subst G (sym (eq-eqb (word k) (packed old 0 0) hit))
      (λ here. restands word' id k v a (stand new 1 0) (set v.stands k (stand new 1 0)) v.busy at keeps has (ap (λ (l : List Stand). set l k (stand new 1 0)) same) f.busy
      turn.1 (here ∙ ap (packed new 1) (sym empty)) fits (omega arith)
      (λ j c no e _ one. let z : c.building ≡ 0 = none_built j c (subst (λ (l : List Stand). get_elem? l j ≡ some c) (sym same) e) in omega arith)
      (λ i n u e p _ _. absurd (let o = part_le (λ (u : Stay). in_bank k u.place) views i u e in let one : in_bank k u.place ≡ 1 = ap (in_bank k) p ∙ ap one_if (eq-eqb k k refl) in omega arith))
      (λ n l _. (omega arith, λ e. absurd (omega arith)))) turn.0)
      (λ miss.
      let G : Bool → Type 0 = λ h. word' k ≡ either h (packed new 1 0) (word k)
      → Banks top word' (cond h (set stands k (stand new 1 0)) stands) desk made (set views id (cond h (record v { stands = set v.stands k (stand new 1 0) }) (record v { busy = record { bank = k; new = new; word = word k; pass = pass; loads = loads } ∷ v.busy }))) in
      subst G (sym (ne_eqb (word k) (packed old 0 0) miss))
      (λ here. quiet word' id v (record { bank = k; new = new; word = word k; pass = pass; loads = loads } ∷ v.busy) at
      (λ j. dite (ℕ_discrete j k) (λ yes. ap word' yes ∙ (here ∙ ap word (sym yes))) (λ no. turn.1 j no))
      (All-cons IsBusy (record { bank = k; new = new; word = word k; pass = pass; loads = loads }) v.busy
      (inside_some k old a has is_old is_free miss, let l = t.0 in omega arith) f.busy)) turn.0)
    where
      -- the words stay, and the desk notes a claim that failed
      quiet : (word' : ℕ → ℕ) (id : ℕ) (v : Stay) (busy : List Busy) → get_elem? views id ≡ some v → ((j : ℕ) → word' j ≡ word j) → All IsBusy busy → Banks top word' stands desk made (set views id (record v { busy = busy }))
      quiet word' id v busy at same all_busy =
          let w : Stay = record v { busy = busy } in
          let f = b.each id v at in
          record {
            words = λ j c e. let y = b.words j c e in let t = total_set (λ (u : Stay). in_bank j u.place) views id v w at in let c' : count j views ≡ count j (set views id w) = omega arith in
                (same j ∙ (y.0 ∙ ap (packed c.version c.building) c'), y.1, y.2);
            one = b.one;
            few = let t = total_set (λ (u : Stay). one_if u.walks) views id v w at in let l = b.few.0 in (omega arith, b.few.1);
            each = each_set (λ j u. StayFits stands desk j u) views id w (λ j u _ e. b.each j u e) (record { out = f.out; where_is = f.where_is; stays = f.stays; busy = all_busy; keeper = f.keeper });
          }

  -- Bank k stands at its version
  pub publishes : (word' : ℕ → ℕ) (id k : ℕ) (v : Stay) (a : Stand) → get_elem? views id ≡ some v → v.keeps ≡ true → get_elem? v.stands k ≡ some a → a.building ≡ 1 → top < 1048576
      → Turned word word' k (bit_and (word k) mask)
      → Banks top word' (set stands k (record a { building = 0 })) desk made (set views id (record v { stands = set v.stands k (record a { building = 0 }) }))
  publishes word' id k v a at keeps has_v built small turn =
      let f = b.each id v at in
      let same : v.stands ≡ stands = (f.keeper keeps).1 in
      let has : get_elem? stands k ≡ some a = subst (λ (l : List Stand). get_elem? l k ≡ some a) same has_v in
      let x = b.words k a has in
      let c = counted top word stands desk made views b k in
      let low = x.1 in
      restands word' id k v a (record a { building = 0 }) (set v.stands k (record a { building = 0 })) v.busy at keeps has (ap (λ (l : List Stand). set l k (record a { building = 0 })) same) f.busy
      turn.1
      (turn.0 ∙ (ap (λ (m : ℕ). bit_and m mask) (x.0 ∙ ap (λ (m : ℕ). packed a.version m (count k views)) built) ∙ published a.version (count k views) (omega arith) (omega arith)))
      low (omega arith)
      (λ j d no e zero_one _. absurd (omega arith))
      (λ i n u e p q r. (q, refl))
      (λ n l _. (l, λ _. refl))

  -- One more place of bank k is counted as zeroed
  pub zeroes : (word' : ℕ → ℕ) (id k : ℕ) (v : Stay) (a : Stand) → get_elem? views id ≡ some v → v.keeps ≡ true → get_elem? v.stands k ≡ some a → a.building ≡ 1 → ((j : ℕ) → word' j ≡ word j)
      → Banks top word' (set stands k (record a { zeroed = a.zeroed + 1 })) desk made (set views id (record v { stands = set v.stands k (record a { zeroed = a.zeroed + 1 }) }))
  zeroes word' id k v a at keeps has_v built still =
      let f = b.each id v at in
      let same : v.stands ≡ stands = (f.keeper keeps).1 in
      let has : get_elem? stands k ≡ some a = subst (λ (l : List Stand). get_elem? l k ≡ some a) same has_v in
      let x = b.words k a has in
      restands word' id k v a (record a { zeroed = a.zeroed + 1 }) (set v.stands k (record a { zeroed = a.zeroed + 1 })) v.busy at keeps has (ap (λ (l : List Stand). set l k (record a { zeroed = a.zeroed + 1 })) same) f.busy
      (λ j _. still j) (still k ∙ x.0) x.1 x.2
      (λ j d no e p q. no (b.one j k d a e has q p))
      (λ i n u e p q r. (q, r))
      (λ n l e. (l, e))
