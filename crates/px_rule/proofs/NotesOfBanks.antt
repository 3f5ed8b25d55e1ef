-- Notes, as far as banks and places go.
use Rattle.std.proofs.Common.{◌≡◌, ◌≢◌, ℕ, zero, suc, ◌+◌, ◌<◌, ◌≤◌, Bool, true, false, cond, eqb, List, [], ◌∷◌, ◌++◌, length, set, refl, sym, ap, ◌∙◌, subst, arith, eqb-true}
use Rattle.std.specs.Prelude.{All}
use Rattle.std.proofs.lemmas.List.Elements.{All-nil, All-cons, All-append}
use mathlib.Core.Option.{some}
use lib.ListN.{get_elem?}
use Rattle.px_rule.specs.declared.view.Place.TheVariants.{Outside}
use Rattle.px_rule.specs.declared.view.Stand.{Stand}
use Rattle.px_rule.specs.declared.view.Stay.{Stay}
use Rattle.px_rule.specs.Words.{packed}
use Rattle.px_rule.specs.Banks.{one_if, in_bank, count, Reached, IsBusy, StayFits, Banks}
use Rattle.px_rule.specs.Steps.{standing, stay_note, stay_pass, stay_spent, stay_met}
use Rattle.px_rule.proofs.Views.{total_set, total_snoc, each_set, each_snoc}

-- the pairs at which banks stand are reached
standing_from : (stands front bs : List Stand) → stands ≡ front ++ bs → All (Reached stands) (standing (length front) bs)
standing_from stands front [] e = All-nil (Reached stands)
standing_from stands front (b ∷ bs) e =
    let rest : All (Reached stands) (standing (length front + 1) bs) =
    subst (λ (n : ℕ). All (Reached stands) (standing n bs)) (Rattle.std.proofs.Common.length-append front (b ∷ [])) (standing_from stands (front ++ b ∷ []) bs (e ∙ sym (Rattle.std.proofs.lemmas.List.append_assoc front (b ∷ []) bs))) in
    let here : get_elem? stands (length front) ≡ some b = ap (λ l. get_elem? l (length front)) e ∙ at_end front b bs in
    elim (eqb b.building 0) as (λ t. eqb b.building 0 ≡ t → All (Reached stands) (cond t ((length front, b.version) ∷ standing (length front + 1) bs) (standing (length front + 1) bs)))
    [ true ↦ (λ h. All-cons (Reached stands) (length front, b.version) (standing (length front + 1) bs) (b, here, omega arith, λ _. eqb-true b.building 0 h) rest) | false ↦ (λ _. rest) ] refl
  where
    at_end : (front : List Stand) (b : Stand) (bs : List Stand) → get_elem? (front ++ b ∷ bs) (length front) ≡ some b
    at_end [] b bs = refl
    at_end (x ∷ xs) b bs = at_end xs b bs

module _ (top : ℕ) (word : ℕ → ℕ) (stands : List Stand) (desk made : ℕ) (views : List Stay) (b : Banks top word stands desk made views) where
  -- a seat that stays where it is knows other things
  pub retold : (id : ℕ) (v w : Stay) → get_elem? views id ≡ some v → w.walks ≡ v.walks → w.place ≡ v.place → StayFits stands desk id w → Banks top word stands desk made (set views id w)
  retold id v w at walks place fits = record {
    words = λ j c e. let y = b.words j c e in let t = total_set (λ (u : Stay). in_bank j u.place) views id v w at in let p : in_bank j w.place ≡ in_bank j v.place = ap (in_bank j) place in
        let c' : count j views ≡ count j (set views id w) = omega arith in (y.0 ∙ ap (packed c.version c.building) c', y.1, y.2);
    one = b.one;
    few = let t = total_set (λ (u : Stay). one_if u.walks) views id v w at in let p = ap one_if walks in let l = b.few.0 in (omega arith, b.few.1);
    each = each_set (λ j u. StayFits stands desk j u) views id w (λ j u _ e. b.each j u e) fits;
  }

  -- a seat came, which is no pass
  pub came : (w : Stay) → w.walks ≡ false → w.place ≡ Outside → StayFits stands desk (length views) w → Banks top word stands desk made (views ++ w ∷ [])
  came w walks place fits = record {
    words = λ j c e. let y = b.words j c e in let t = total_snoc (λ (u : Stay). in_bank j u.place) views w in let p : in_bank j w.place ≡ 0 = ap (in_bank j) place in
        let c' : count j views ≡ count j (views ++ w ∷ []) = omega arith in (y.0 ∙ ap (packed c.version c.building) c', y.1, y.2);
    one = b.one;
    few = let t = total_snoc (λ (u : Stay). one_if u.walks) views w in let p : one_if w.walks ≡ 0 = ap one_if walks in let l = b.few.0 in (omega arith, b.few.1);
    each = each_snoc (λ j u. StayFits stands desk j u) views w b.each fits;
  }

  note_fits : (id i : ℕ) (v : Stay) → StayFits stands desk id v → StayFits stands desk i (stay_note v)
  note_fits id i v f = record {
    out = λ _. refl;
    where_is = tt;
    stays = elim (v.keeps) as (λ t. v.keeps ≡ t → All (Reached stands) (cond t (standing 0 v.stands) []))
        [ true ↦ (λ h. subst (λ l. All (Reached stands) (standing 0 l)) (sym (f.keeper h).1) (standing_from stands [] stands refl)) | false ↦ (λ _. All-nil (Reached stands)) ] refl;
    busy = f.busy;
    keeper = λ h. absurd (let e : false ≡ true = h in cc);
  }

  spent_fits : (i : ℕ) → StayFits stands desk i stay_spent
  spent_fits i = record { out = λ _. refl; where_is = tt; stays = All-nil (Reached stands); busy = All-nil IsBusy; keeper = λ h. absurd (let e : false ≡ true = h in cc) }

  pub notes : (id : ℕ) (v : Stay) → get_elem? views id ≡ some v → Banks top word stands desk made (views ++ stay_note v ∷ [])
  notes id v at = came (stay_note v) refl refl (note_fits id (length views) v (b.each id v at))

  pub spends : (other : ℕ) (u : Stay) → get_elem? views other ≡ some u → u.walks ≡ false → Banks top word stands desk made (set views other stay_spent)
  spends other u at quiet = let f = b.each other u at in retold other u stay_spent at (sym quiet) (sym (f.out quiet)) (spent_fits other)

  pub meets : (id other : ℕ) (v u : Stay) → get_elem? views id ≡ some v → get_elem? views other ≡ some u → Banks top word stands desk made (set views id (stay_met v u))
  meets id other v u at there = let f = b.each id v at in let g = b.each other u there in
      retold id v (stay_met v u) at refl refl (record { out = f.out; where_is = f.where_is; stays = All-append (Reached stands) u.stays v.stays g.stays f.stays; busy = All-append IsBusy u.busy v.busy g.busy f.busy; keeper = f.keeper })

-- a pass came
module _ (top : ℕ) (word : ℕ → ℕ) (stands : List Stand) (desk made : ℕ) (views : List Stay) (b : Banks top word stands desk made views) where
  pub born : (w : Stay) → w.walks ≡ true → w.place ≡ Outside → made < 65 → StayFits stands desk (length views) w → Banks top word stands desk (made + 1) (views ++ w ∷ [])
  born w walks place room fits = record {
    words = λ j c e. let y = b.words j c e in let t = total_snoc (λ (u : Stay). in_bank j u.place) views w in let p : in_bank j w.place ≡ 0 = ap (in_bank j) place in
        let c' : count j views ≡ count j (views ++ w ∷ []) = omega arith in (y.0 ∙ ap (packed c.version c.building) c', y.1, y.2);
    one = b.one;
    few = let t = total_snoc (λ (u : Stay). one_if u.walks) views w in let p : one_if w.walks ≡ 1 = ap one_if walks in let l = b.few.0 in (omega arith, omega arith);
    each = each_snoc (λ j u. StayFits stands desk j u) views w b.each fits;
  }

  pub makes : (id : ℕ) (v : Stay) → get_elem? views id ≡ some v → made < 65 → Banks top word stands desk (made + 1) (views ++ stay_pass v ∷ [])
  makes id v at room = let f = b.each id v at in born (stay_pass v) refl refl room (record {
    out = λ _. refl;
    where_is = tt;
    stays = elim (v.keeps) as (λ t. v.keeps ≡ t → All (Reached stands) (cond t (standing 0 v.stands) []))
        [ true ↦ (λ h. subst (λ l. All (Reached stands) (standing 0 l)) (sym (f.keeper h).1) (standing_from stands [] stands refl)) | false ↦ (λ _. All-nil (Reached stands)) ] refl;
    busy = All-nil IsBusy;
    keeper = λ h. absurd (let e : false ≡ true = h in cc);
  })
