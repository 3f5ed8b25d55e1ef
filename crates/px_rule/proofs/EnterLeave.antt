-- Entering and leaving a bank.
use Rattle.std.proofs.Common.{◌≡◌, ◌≢◌, ℕ, ◌+◌, ◌-◌, ◌%◌, ◌^◌, ◌<◌, ◌≤◌, Bool, true, false, cond, eqb, ◌&&◌, List, ◌∷◌, length, set, refl, sym, ap, ◌∙◌, subst, arith, eq-eqb, ne_eqb, eqb-true}
use Rattle.std.specs.Prelude.{All}
use Rattle.std.proofs.lemmas.List.Elements.{All-cons}
use mathlib.Core.Logic.{dite}
use mathlib.Core.Option.{some}
use native.Mathlib.Decide.{ℕ_discrete}
use lib.ListN.{get_elem?}
use Rattle.px_rule.specs.declared.view.Place.{Place}
use Rattle.px_rule.specs.declared.view.Place.TheVariants.{Outside, Inside, Stray}
use Rattle.px_rule.specs.declared.view.Stand.{Stand}
use Rattle.px_rule.specs.declared.view.Stay.{Stay}
use Rattle.px_rule.specs.Words.{packed, version_of, building_of, count_of, shows}
use Rattle.px_rule.specs.Banks.{one_if, in_bank, count, Reached, Where, StayFits, Banks, Turned}
use Rattle.px_rule.specs.Steps.{entered, went, StillShows}
use Rattle.px_rule.proofs.BankWords.{version_packed, building_packed, count_packed, added, taken}
use Rattle.px_rule.proofs.Views.{total_set, total_le, part_le, each_set, there}

outside_zero : (p : Place) (k : ℕ) → p ≡ Outside → in_bank k p ≡ 0
outside_zero p k e = ap (in_bank k) e

one_le : (b : Bool) → one_if b ≤ 1
one_le true = omega arith
one_le false = omega arith

in_bank_le : (k : ℕ) (p : Place) → in_bank k p ≤ 1
in_bank_le k Outside = omega arith
in_bank_le k (Inside j n) = one_le (eqb j k)
in_bank_le k (Stray j) = one_le (eqb j k)

-- only passes are in banks
weighs : (stands : List Stand) (desk i k : ℕ) (v : Stay) → StayFits stands desk i v → in_bank k v.place ≤ one_if v.walks
weighs stands desk i k v f = elim (v.walks) as (λ b. v.walks ≡ b → in_bank k v.place ≤ one_if b)
    [ true ↦ (λ _. in_bank_le k v.place) | false ↦ (λ h. let z = outside_zero v.place k (f.out h) in omega arith) ] refl

module _ (top : ℕ) (word : ℕ → ℕ) (stands : List Stand) (desk made : ℕ) (views : List Stay) (b : Banks top word stands desk made views) where
  pub counted : (k : ℕ) → count k views ≤ 65
  counted k = let l = total_le (λ (v : Stay). in_bank k v.place) (λ (v : Stay). one_if v.walks) views (λ i v e. weighs stands desk i k v (b.each i v e)) in let f = b.few in omega arith

  -- one pass moves from a place to another, and the word of bank k follows
  moves : (word' : ℕ → ℕ) (id k : ℕ) (v w : Stay) → get_elem? views id ≡ some v → w.walks ≡ v.walks
      → ((j : ℕ) → j ≢ k → word' j ≡ word j) → ((j : ℕ) → j ≢ k → in_bank j w.place ≡ in_bank j v.place)
      → ((a : Stand) → get_elem? stands k ≡ some a → word' k ≡ packed a.version a.building (count k (set views id w)))
      → StayFits stands desk id w → Banks top word' stands desk made (set views id w)
  moves word' id k v w at walks others same here fits = record {
    words = λ j a e. let x = b.words j a e in dite (ℕ_discrete j k)
        (λ yes. (ap word' yes ∙ (here a (subst (λ (i : ℕ). get_elem? stands i ≡ some a) yes e) ∙ ap (λ (i : ℕ). packed a.version a.building (count i (set views id w))) (sym yes)), x.1, x.2))
        (λ no. let t = total_set (λ (u : Stay). in_bank j u.place) views id v w at in let s = same j no in
        let c : count j views ≡ count j (set views id w) = omega arith in
        (others j no ∙ (x.0 ∙ ap (packed a.version a.building) c), x.1, x.2));
    one = b.one;
    few = let t = total_set (λ (u : Stay). one_if u.walks) views id v w at in let s = ap one_if walks in let f = b.few.0 in (omega arith, b.few.1);
    each = each_set (λ j u. StayFits stands desk j u) views id w (λ j u _ e. b.each j u e) fits;
  }

  -- what the word of bank k tells
  pub tells : (k : ℕ) (a : Stand) → get_elem? stands k ≡ some a → (version_of (word k) ≡ a.version) × (building_of (word k) ≡ a.building) × (count_of (word k) ≡ count k views)
  tells k a e = let x = b.words k a e in let c = counted k in let small : count k views < 65536 = omega arith in (
    ap version_of x.0 ∙ version_packed a.version a.building (count k views) x.2 small,
    ap building_of x.0 ∙ building_packed a.version a.building (count k views) x.2 small,
    ap count_of x.0 ∙ count_packed a.version a.building (count k views) x.2 small,
  )

  shown : (n w : ℕ) → shows n w ≡ true → (version_of w ≡ n) × (building_of w ≡ 0)
  shown n w h = let e = both (eqb (version_of w) n) (eqb (building_of w) 0) h in (eqb-true (version_of w) n e.0, eqb-true (building_of w) 0 e.1)
    where
      both : (x y : Bool) → (x && y) ≡ true → (x ≡ true) × (y ≡ true)
      both true true h = (refl, refl)
      both true false h = absurd (cc)
      both false true h = absurd (cc)
      both false false h = absurd (cc)

  in_entered : (j k n w : ℕ) → in_bank j (cond (shows n w) (Inside k n) (Stray k)) ≡ one_if (eqb k j)
  in_entered j k n w = elim (shows n w) as (λ t. in_bank j (cond t (Inside k n) (Stray k)) ≡ one_if (eqb k j)) [ true ↦ refl | false ↦ refl ]

  pub enters : (word' : ℕ → ℕ) (id k n : ℕ) (v : Stay) → get_elem? views id ≡ some v → v.walks ≡ true → v.place ≡ Outside → k < length stands → top < 1048576
      → Turned word word' k ((word k + 1) % 2 ^ 64) → Banks top word' stands desk made (set views id (entered k n (word k) v))
  enters word' id k n v at walks outside known small turn =
      let w = entered k n (word k) v in
      let f = b.each id v at in
      let y = there stands k known in
      let a = y.0 in
      let t = tells k a y.1 in
      moves word' id k v w at refl turn.1
      (λ j no. in_entered j k n (word k) ∙ (ap one_if (ne_eqb k j (λ e. no (sym e))) ∙ sym (outside_zero v.place j outside)))
      (λ a' e. let x = b.words k a' e in let c = counted k in let s = total_set (λ (u : Stay). in_bank k u.place) views id v w at in
      let one : in_bank k w.place ≡ 1 = in_entered k k n (word k) ∙ ap one_if (eq-eqb k k refl) in
      let none : in_bank k v.place ≡ 0 = outside_zero v.place k outside in
      let more : count k views + 1 ≡ count k (set views id w) = omega arith in
      let low = x.1 in
      turn.0 ∙ (ap (λ (m : ℕ). (m + 1) % 2 ^ 64) x.0 ∙ (added a'.version a'.building (count k views) (omega arith) x.2 (omega arith) ∙ ap (packed a'.version a'.building) more)))
      (record {
        out = λ h. absurd (let e : true ≡ false = sym walks ∙ h in cc);
        where_is = elim (shows n (word k)) as (λ t. shows n (word k) ≡ t → Where stands (cond t (Inside k n) (Stray k)))
            [ true ↦ (λ h. let s = shown n (word k) h in (a, y.1, sym t.0 ∙ s.0, sym t.1 ∙ s.1)) | false ↦ (λ h. known) ] refl;
        stays = elim (shows n (word k)) as (λ t. shows n (word k) ≡ t → All (Reached stands) (cond t ((k, n) ∷ v.stays) v.stays)) [
          | true ↦ (λ h. let s = shown n (word k) h in let is : a.version ≡ n = sym t.0 ∙ s.0 in
              All-cons (Reached stands) (k, n) v.stays (a, y.1, omega arith, λ _. sym t.1 ∙ s.1) f.stays)
          | false ↦ (λ h. f.stays)
        ] refl;
        busy = f.busy;
        keeper = f.keeper;
      })

  -- a stay that was told says what the word shows
  pub still : (k n : ℕ) → Reached stands (k, n) → StillShows n (word k)
  still k n r = let t = tells k r.0 r.1 in let l = r.2 in let e = t.0 in (omega arith, λ h. t.1 ∙ r.3 (h ∙ t.0))

  pub leaves : (word' : ℕ → ℕ) (id k : ℕ) (v : Stay) → get_elem? views id ≡ some v → v.walks ≡ true → ((j : ℕ) → in_bank j v.place ≡ one_if (eqb k j)) → top < 1048576
      → Turned word word' k ((word k + (2 ^ 64 - 1)) % 2 ^ 64) → Banks top word' stands desk made (set views id (went v))
  leaves word' id k v at walks is_in small turn =
      let w = went v in
      let f = b.each id v at in
      moves word' id k v w at refl turn.1
      (λ j no. sym (is_in j ∙ ap one_if (ne_eqb k j (λ e. no (sym e)))))
      (λ a' e. let x = b.words k a' e in let c = counted k in let s = total_set (λ (u : Stay). in_bank k u.place) views id v w at in
      let one : in_bank k v.place ≡ 1 = is_in k ∙ ap one_if (eq-eqb k k refl) in
      let p = part_le (λ (u : Stay). in_bank k u.place) views id v at in
      let less : count k views ≡ count k (set views id w) + 1 = omega arith in
      let low = x.1 in
      turn.0 ∙ (ap (λ (m : ℕ). (m + (2 ^ 64 - 1)) % 2 ^ 64) (x.0 ∙ ap (packed a'.version a'.building) less) ∙ taken a'.version a'.building (count k (set views id w)) (omega arith) x.2 (omega arith)))
      (record { out = λ h. refl; where_is = tt; stays = f.stays; busy = f.busy; keeper = f.keeper })
