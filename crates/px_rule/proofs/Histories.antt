-- Each step keeps the first part of the rule, of the history.
use Rattle.std.proofs.Common.{◌≡◌, ◌≢◌, leb, leb-true, ℕ, ◌+◌, ◌<◌, ◌≤◌, true, false, cond, List, [], ◌∷◌, ◌++◌, length, set, Option, Some, None, refl, sym, ap, ◌∙◌, subst, ⊎_elim, arith, length-append, length-set, le_of_eq}
use Rattle.std.specs.Prelude.{All}
use Rattle.std.proofs.lemmas.List.Elements.{All-weaker, All-push, All-nil, All-cons}
use mathlib.Core.Option.{some}
use mathlib.Core.Logic.{dite}
use native.Mathlib.Decide.{ℕ_discrete}
use lib.ListN.{get_elem?}
use Rattle.px_rule.specs.declared.view.Past.{Past}
use Rattle.px_rule.specs.declared.view.Kind.{Kind}
use Rattle.px_rule.specs.declared.view.Kind.TheVariants.{Desk, Pass, DeskNote, PassNote, Spent}
use Rattle.px_rule.specs.Histories.{Begins, named, Fits, Histories}
use Rattle.px_rule.specs.Steps.{spent, Told, loaded, entries_of, accepted, note_kind, number_of, note_of, asking, one_more, new_pass, longer, met, either_permit, heard}
use Rattle.px_rule.proofs.Beginnings.{no_longer, begins_nil, begins_refl, begins_more, begins_length, begins_whole, named_begins, named_own, named_other}
use Rattle.atomic_table.proofs.Lists.{at_set}
use Rattle.px_rule.proofs.Views.{each_set, each_join, each_snoc, present_set, stays_there, same_at, put, put_here, put_else}

desk_no_pass : (k : Kind) (p : ℕ) → k ≡ Desk → k ≡ Pass p → ⊥
desk_no_pass k p a b = let e : Desk ≡ Pass p = sym a ∙ b in cc

desk_no_note : (k : Kind) (p : ℕ) → k ≡ Desk → k ≡ PassNote p → ⊥
desk_no_note k p a b = let e : Desk ≡ PassNote p = sym a ∙ b in cc

module _ {E : Type 0} (who : E → ℕ) (legal : List E → Type 0) (log : List E) (desk made : ℕ) (seat holder : ℕ → ℕ) (mine : ℕ → List E) (top : ℕ) (views : List (Past E)) (k : Histories who legal log desk made seat holder mine top views) where
  abbrev Now : ℕ → List (Past E) → Type 0
  Now = Histories who legal log desk made seat holder mine

  abbrev F : ℕ → Past E → Type 0
  F = Fits who log desk made seat holder mine

  -- what the rule tells of one view
  pub tells : (id : ℕ) (v : Past E) → get_elem? views id ≡ some v → Told who legal v top
  tells id v at = let f = k.each id v at in record {
    log = log;
    long = sym k.word;
    is_legal = k.is_legal;
    seen = f.seen;
    olds = f.olds;
    last = subst (λ (m : ℕ). v.last ≤ m) (sym k.word) f.last;
    asker_last = subst (λ (m : ℕ). v.asker_last ≤ m) (sym k.word) f.asker_last;
    of_pass = λ p e. subst (Begins (named who p log)) (sym (f.is_pass p e).2) (k.asked p);
    of_desk = λ e. let d = f.is_desk e in (d.1, subst (λ (m : ℕ). All (λ x. who x < m) log) (sym d.2) k.of_passes);
  }

  -- the desk's seat is among these
  abbrev Present : List (Past E) → Type 0
  Present views' = (d : Past E) × (get_elem? views' desk ≡ some d) × (d.kind ≡ Desk)

  present_after : (id : ℕ) (v w : Past E) → get_elem? views id ≡ some v → w.kind ≡ v.kind → Present (set views id w)
  present_after id v w at same = present_set (λ (u : Past E). u.kind ≡ Desk) views desk id w k.present (λ u e _ is. same ∙ (ap (λ (x : Past E). x.kind) (same_at views id v u at e) ∙ is))

  present_came : (views' : List (Past E)) (w : Past E) → Present views' → Present (views' ++ w ∷ [])
  present_came views' w p = (p.0, stays_there views' w desk p.0 p.1, p.2)

  -- a seat that is not the desk was spent
  present_spent : (id : ℕ) (v w : Past E) (other : ℕ) (u : Past E) → get_elem? views id ≡ some v → get_elem? views other ≡ some u → w.kind ≡ v.kind → u.kind ≢ Desk → Present (set (set views id w) other spent)
  present_spent id v w other u at there same no_desk = present_set (λ (u : Past E). u.kind ≡ Desk) (set views id w) desk other spent (present_after id v w at same)
      (λ x e _ is. absurd (⊎_elim
      (λ (y : (other ≡ id) × (w ≡ x)). no_desk (ap (λ (a : Past E). a.kind) (same_at views other u v there (ap (λ (j : ℕ). get_elem? views j) y.0 ∙ at)) ∙ (sym same ∙ (ap (λ (a : Past E). a.kind) y.1 ∙ is))))
      (λ (y : (other ≢ id) × (get_elem? views other ≡ some x)). no_desk (ap (λ (a : Past E). a.kind) (same_at views other u x there y.1) ∙ is))
      (at_set views id other w x e)))

  -- the views changed, and nothing else
  pub seen_by : (views' : List (Past E)) → Present views' → ((i : ℕ) (v : Past E) → get_elem? views' i ≡ some v → F i v) → Now top views'
  seen_by views' present each = record { word = k.word; is_legal = k.is_legal; of_passes = k.of_passes; asked = k.asked; fresh = k.fresh; present = present; each = each }

  pub loads : (id : ℕ) (v : Past E) → get_elem? views id ≡ some v → Now top (set views id (loaded v top))
  loads id v at = let f = k.each id v at in seen_by (set views id (loaded v top)) (present_after id v (loaded v top) at refl) (each_set F views id (loaded v top) (λ j u _ e. k.each j u e)
      (record { seen = f.seen; olds = f.olds; last = le_of_eq k.word; asker_last = f.asker_last; is_desk = f.is_desk; is_pass = f.is_pass; is_note = f.is_note; permit = f.permit }))

  -- a note was made, which knows no permit
  pub notes : (id : ℕ) (v : Past E) → get_elem? views id ≡ some v → Now top (set views id v ++ note_of None v ∷ [])
  notes id v at = let f = k.each id v at in seen_by (set views id v ++ note_of None v ∷ []) (present_came (set views id v) (note_of None v) (present_after id v v at refl)) (each_snoc F (set views id v) (note_of None v) (each_set F views id v (λ j u _ e. k.each j u e) f) (record {
    seen = f.seen;
    olds = All-nil (λ o. Begins o log);
    last = f.last;
    asker_last = omega arith;
    is_desk = λ h. absurd (no_desk v.kind h);
    is_pass = λ p h. absurd (no_pass v.kind p h);
    is_note = λ p h. (f.is_pass p (of_pass v.kind p h)).0;
    permit = λ e' h. absurd (cc);
  }))
    where
      no_desk : (k : Kind) → note_kind k ≡ Desk → ⊥
      no_desk Desk e = cc
      no_desk (Pass p) e = cc
      no_desk DeskNote e = cc
      no_desk (PassNote p) e = cc
      no_desk Spent e = cc

      no_pass : (k : Kind) (p : ℕ) → note_kind k ≡ Pass p → ⊥
      no_pass Desk p e = cc
      no_pass (Pass q) p e = cc
      no_pass DeskNote p e = cc
      no_pass (PassNote q) p e = cc
      no_pass Spent p e = cc

      of_pass : (k : Kind) (p : ℕ) → note_kind k ≡ PassNote p → k ≡ Pass p
      of_pass Desk p e = absurd (cc)
      of_pass (Pass q) p e = ap Pass (ap number_of e)
      of_pass DeskNote p e = absurd (cc)
      of_pass (PassNote q) p e = absurd (cc)
      of_pass Spent p e = absurd (cc)

  pub accepts : (id : ℕ) (v : Past E) (e : E) → get_elem? views id ≡ some v → v.kind ≡ Desk → v.permit ≡ Some e → legal (v.seen ++ e ∷ [])
      → Histories who legal (log ++ e ∷ []) desk made seat holder mine (top + 1) (set views id (accepted v))
  accepts id v e at is_desk has may =
      let f = k.each id v at in
      let d = f.is_desk is_desk in
      let q = f.permit e has in
      let log' : List E = log ++ e ∷ [] in
      let longer_log : length log' ≡ length log + 1 = length-append log (e ∷ []) in
      let w = accepted v in
      let same : w.seen ≡ log' = ap (λ (o : Option E). v.seen ++ entries_of o) has ∙ ap (λ l. l ++ e ∷ []) d.1 in
      record {
        word = let h = k.word in omega arith;
        is_legal = subst (λ l. legal (l ++ e ∷ [])) d.1 may;
        of_passes = All-push (λ x. who x < made) log e k.of_passes q.0;
        asked = λ p. dite (ℕ_discrete (who e) p)
            (λ yes. subst (λ (l : List E × List E). Begins l.0 l.1) (λ i. (sym (named_own who p e log yes) i, (ap (λ (r : ℕ). named who r log ++ e ∷ []) (sym yes) ∙ sym q.2 ∙ ap mine yes) i)) (begins_refl (named who p log ++ e ∷ [])))
            (λ no. subst (λ l. Begins l (mine p)) (sym (named_other who p e log no)) (k.asked p));
        fresh = k.fresh;
        present = present_after id v w at refl;
        each = each_set (Fits who log' desk made seat holder mine) views id w
            (λ j u apart there. let g = k.each j u there in record {
              seen = begins_more u.seen log (e ∷ []) g.seen;
              olds = All-weaker (λ o. Begins o log) (λ o. Begins o log') (λ o b. begins_more o log (e ∷ []) b) u.olds g.olds;
              last = let l = g.last in omega arith;
              asker_last = let l = g.asker_last in omega arith;
              is_desk = λ h. absurd (apart ((g.is_desk h).0 ∙ sym d.0));
              is_pass = g.is_pass;
              is_note = g.is_note;
              permit = λ e' h. let r = g.permit e' h in
                  (r.0, r.1, r.2 ∙ ap (λ l. l ++ e' ∷ []) (sym (named_other who (who e') e log (λ one. apart (sym r.1 ∙ ap holder (sym one) ∙ q.1)))));
            })
            (record {
              seen = subst (λ l. Begins l log') (sym same) (begins_refl log');
              olds = All-weaker (λ o. Begins o log) (λ o. Begins o log') (λ o b. begins_more o log (e ∷ []) b) v.olds f.olds;
              last = let l = f.last in omega arith;
              asker_last = let l = f.asker_last in omega arith;
              is_desk = λ _. (d.0, same, d.2);
              is_pass = λ p h. absurd (desk_no_pass v.kind p is_desk h);
              is_note = λ p h. absurd (desk_no_note v.kind p is_desk h);
              permit = λ e' h. absurd (cc);
            });
      }

  -- a pass takes a note in
  pub meets : (id : ℕ) (v : Past E) (other : ℕ) (u : Past E) → get_elem? views id ≡ some v → get_elem? views other ≡ some u → u.kind ≢ Desk → Now top (set (set views id (met v u)) other spent)
  meets id v other u at there no_desk =
      let f = k.each id v at in
      let g = k.each other u there in
      seen_by (set (set views id (met v u)) other spent) (present_spent id v (met v u) other u at there refl no_desk) (each_join F views id other (met v u) spent (λ j x _ _ e. k.each j x e)
      (record {
        seen = elim (leb (length v.seen) (length u.seen)) as (λ b. Begins (cond b u.seen v.seen) log) [ true ↦ g.seen | false ↦ f.seen ];
        olds = All-cons (λ o. Begins o log) v.seen (u.seen ∷ v.olds) f.seen (All-cons (λ o. Begins o log) u.seen v.olds g.seen f.olds);
        last = f.last;
        asker_last = f.asker_last;
        is_desk = λ h. let d = f.is_desk h in (d.0, longest v.seen u.seen d.1 g.seen, d.2);
        is_pass = f.is_pass;
        is_note = f.is_note;
        permit = f.permit;
      })
      (record {
        seen = begins_nil log;
        olds = All-nil (λ o. Begins o log);
        last = omega arith;
        asker_last = omega arith;
        is_desk = λ h. absurd (cc);
        is_pass = λ r h. absurd (cc);
        is_note = λ r h. absurd (cc);
        permit = λ e' h. absurd (cc);
      }))
    where
      longest : (xs ys : List E) → xs ≡ log → Begins ys log → longer xs ys ≡ log
      longest xs ys same b = elim (leb (length xs) (length ys)) as (λ t. leb (length xs) (length ys) ≡ t → cond t ys xs ≡ log)
          [ true ↦ (λ h. let l = leb-true (length xs) (length ys) h in sym (begins_whole ys log b (subst (λ z. length z ≤ length ys) same l))) | false ↦ (λ _. same) ] refl

  -- a note of a pass was made, with a permit
  pub asks : (id : ℕ) (v : Past E) (p : ℕ) (e : E) → get_elem? views id ≡ some v → v.kind ≡ Pass p → who e ≡ p → named who p v.seen ≡ v.mine
      → Histories who legal log desk made seat (put holder p (length views)) (put mine p (v.mine ++ e ∷ [])) top (set views id (asking (Some e) v) ++ note_of (Some e) v ∷ [])
  asks id v p e at is_pass is_who all_seen =
      let f = k.each id v at in
      let q = f.is_pass p is_pass in
      let w = asking (Some e) v in
      let n : ℕ = length views in
      let mine' : ℕ → List E = put mine p (v.mine ++ e ∷ []) in
      let holder' : ℕ → ℕ = put holder p n in
      let old : named who p log ≡ mine p = sym (begins_whole (named who p log) (mine p) (k.asked p) (begins_length (mine p) (named who p log)
      (subst (λ l. Begins l (named who p log)) (all_seen ∙ q.2) (named_begins who p v.seen log f.seen)))) in
      let G = Fits who log desk made seat holder' mine' in
      let none_yet : (j : ℕ) (u : Past E) (e' : E) → get_elem? views j ≡ some u → u.permit ≡ Some e' → who e' ≢ p = λ j u e' there h same.
      let r = (k.each j u there).permit e' h in
      no_longer (named who p log) e' (ap (λ (x : ℕ). named who x log ++ e' ∷ []) (sym same) ∙ sym r.2 ∙ ap mine same ∙ sym old) in
      record {
        word = k.word;
        is_legal = k.is_legal;
        of_passes = k.of_passes;
        asked = λ r. dite (ℕ_discrete r p)
            (λ yes. subst (λ l. Begins (named who r log) l) (sym (put_here mine p r (v.mine ++ e ∷ []) yes))
            (begins_more (named who r log) v.mine (e ∷ []) (subst (λ l. Begins (named who r log) l) (ap mine yes ∙ sym q.2) (k.asked r))))
            (λ no. subst (λ l. Begins (named who r log) l) (sym (put_else mine p r (v.mine ++ e ∷ []) no)) (k.asked r));
        fresh = λ r above. put_else mine p r (v.mine ++ e ∷ []) (λ same. let l = q.0 in omega arith) ∙ k.fresh r above;
        present = present_came (set views id w) (note_of (Some e) v) (present_after id v w at refl);
        each = each_snoc G (set views id w) (note_of (Some e) v)
            (each_set G views id w
            (λ j u apart there. let g = k.each j u there in record {
              seen = g.seen;
              olds = g.olds;
              last = g.last;
              asker_last = g.asker_last;
              is_desk = g.is_desk;
              is_note = g.is_note;
              is_pass = λ r h. let x = g.is_pass r h in (x.0, x.1, x.2 ∙ sym (put_else mine p r (v.mine ++ e ∷ []) (λ same. apart (sym x.1 ∙ ap seat same ∙ q.1))));
              permit = λ e' h. let x = g.permit e' h in let other = none_yet j u e' there h in (x.0, put_else holder p (who e') n other ∙ x.1, put_else mine p (who e') (v.mine ++ e ∷ []) other ∙ x.2);
            })
            (record {
              seen = f.seen;
              olds = f.olds;
              last = f.last;
              asker_last = f.asker_last;
              is_desk = f.is_desk;
              is_note = f.is_note;
              is_pass = λ r h. let same : r ≡ p = ap number_of (sym h ∙ is_pass) in let x = f.is_pass r h in (x.0, x.1, sym (put_here mine p r (v.mine ++ e ∷ []) same));
              permit = λ e' h. let x = f.permit e' h in let other = none_yet id v e' at h in (x.0, put_else holder p (who e') n other ∙ x.1, put_else mine p (who e') (v.mine ++ e ∷ []) other ∙ x.2);
            }))
            (record {
              seen = f.seen;
              olds = All-nil (λ o. Begins o log);
              last = f.last;
              asker_last = omega arith;
              is_desk = λ h. absurd (let e' : note_kind (Pass p) ≡ Desk = ap note_kind (sym is_pass) ∙ h in cc);
              is_pass = λ r h. absurd (let e' : note_kind (Pass p) ≡ Pass r = ap note_kind (sym is_pass) ∙ h in cc);
              is_note = λ r h. subst (λ (x : ℕ). x < made) (let e' : note_kind (Pass p) ≡ PassNote r = ap note_kind (sym is_pass) ∙ h in ap number_of e') q.0;
              permit = λ e' h. let same : e ≡ e' = ap (some_or e) h in let at_p : who e' ≡ p = ap who (sym same) ∙ is_who in (
                subst (λ (x : ℕ). x < made) (sym at_p) q.0,
                put_here holder p (who e') n at_p ∙ sym (length-set views id w),
                put_here mine p (who e') (v.mine ++ e ∷ []) at_p ∙ (λ i. (q.2 ∙ sym old ∙ ap (λ (x : ℕ). named who x log) (sym at_p)) i ++ same i ∷ []),
              );
            });
      }
    where
      some_or : E → Option E → E
      some_or d None = d
      some_or d (Some x) = x

  -- a pass was made
  pub makes : (id : ℕ) (v : Past E) → get_elem? views id ≡ some v → v.kind ≡ Desk → v.seen ≡ []
      → Histories who legal log desk (made + 1) (put seat made (length views)) holder mine top (set views id (one_more v) ++ new_pass v ∷ [])
  makes id v at is_desk new =
      let f = k.each id v at in
      let d = f.is_desk is_desk in
      let w = one_more v in
      let n : ℕ = length views in
      let G = Fits who log desk (made + 1) (put seat made n) holder mine in
      record {
        word = k.word;
        is_legal = k.is_legal;
        of_passes = All-weaker (λ x. who x < made) (λ x. who x < made + 1) (λ x h. omega arith) log k.of_passes;
        asked = k.asked;
        fresh = λ p h. k.fresh p (omega arith);
        present = present_came (set views id w) (new_pass v) (present_after id v w at refl);
        each = each_snoc G (set views id w) (new_pass v)
            (each_set G views id w
            (λ j u apart there. let g = k.each j u there in record {
              seen = g.seen;
              olds = g.olds;
              last = g.last;
              asker_last = g.asker_last;
              is_desk = λ h. absurd (apart ((g.is_desk h).0 ∙ sym d.0));
              is_pass = λ r h. let x = g.is_pass r h in let l = x.0 in (omega arith, put_else seat made r n (λ same. omega arith) ∙ x.1, x.2);
              is_note = λ r h. let l = g.is_note r h in omega arith;
              permit = λ e' h. let x = g.permit e' h in let l = x.0 in (omega arith, x.1, x.2);
            })
            (record {
              seen = f.seen;
              olds = f.olds;
              last = f.last;
              asker_last = f.asker_last;
              is_desk = λ h. (d.0, d.1, ap (λ (m : ℕ). m + 1) d.2);
              is_pass = λ p h. absurd (desk_no_pass v.kind p is_desk h);
              is_note = λ p h. absurd (desk_no_note v.kind p is_desk h);
              permit = λ e' h. let x = f.permit e' h in let l = x.0 in (omega arith, x.1, x.2);
            }))
            (record {
              seen = f.seen;
              olds = All-nil (λ o. Begins o log);
              last = omega arith;
              asker_last = omega arith;
              is_desk = λ h. absurd (cc);
              is_pass = λ r h. let same : r ≡ made = sym (ap number_of h) ∙ d.2 in (omega arith, put_here seat made r n same ∙ sym (length-set views id w), sym (k.fresh r (omega arith)));
              is_note = λ r h. absurd (cc);
              permit = λ e' h. absurd (cc);
            });
      }

  -- what the desk holds after it took a note in
  abbrev pub held : Option E → ℕ → ℕ → ℕ
  held None id = holder
  held (Some e) id = put holder (who e) id

  hears_by : (id : ℕ) (v : Past E) (other : ℕ) (u : Past E) (holder' : ℕ → ℕ) → get_elem? views id ≡ some v → get_elem? views other ≡ some u → u.kind ≢ Desk
      → ((j : ℕ) (x : Past E) (e : E) → j ≢ other → get_elem? views j ≡ some x → x.permit ≡ Some e → holder' (who e) ≡ holder (who e))
      → ((e : E) → either_permit u.permit v.permit ≡ Some e → (who e < made) × (holder' (who e) ≡ id) × (mine (who e) ≡ named who (who e) log ++ e ∷ []))
      → Histories who legal log desk made seat holder' mine top (set (set views id (heard v u)) other spent)
  hears_by id v other u holder' at there no_desk same own =
      let f = k.each id v at in
      let g = k.each other u there in
      record {
        word = k.word;
        is_legal = k.is_legal;
        of_passes = k.of_passes;
        asked = k.asked;
        fresh = k.fresh;
        present = present_spent id v (heard v u) other u at there refl no_desk;
        each = each_join (Fits who log desk made seat holder' mine) views id other (heard v u) spent
            (λ j x a b e. let h = k.each j x e in
            record { seen = h.seen; olds = h.olds; last = h.last; asker_last = h.asker_last; is_desk = h.is_desk; is_pass = h.is_pass; is_note = h.is_note; permit = λ e' p. let q = h.permit e' p in (q.0, same j x e' b e p ∙ q.1, q.2) })
            (record { seen = f.seen; olds = All-cons (λ o. Begins o log) u.seen v.olds g.seen f.olds; last = f.last; asker_last = g.last; is_desk = f.is_desk; is_pass = f.is_pass; is_note = f.is_note; permit = own })
            (record {
              seen = begins_nil log;
              olds = All-nil (λ o. Begins o log);
              last = omega arith;
              asker_last = omega arith;
              is_desk = λ h. absurd (cc);
              is_pass = λ r h. absurd (cc);
              is_note = λ r h. absurd (cc);
              permit = λ e' h. absurd (cc);
            });
      }

  -- the desk took a note in
  pub hears : (id : ℕ) (v : Past E) (other : ℕ) (u : Past E) → get_elem? views id ≡ some v → get_elem? views other ≡ some u → u.kind ≢ Desk
      → Histories who legal log desk made seat (held u.permit id) mine top (set (set views id (heard v u)) other spent)
  hears id v other u at there no_desk = elim (u.permit) as (λ o. u.permit ≡ o → Histories who legal log desk made seat (held o id) mine top (set (set views id (heard v u)) other spent)) [
    | None ↦ (λ none. hears_by id v other u holder at there no_desk (λ j x e b h p. refl) (λ e p. (k.each id v at).permit e (subst (λ o. either_permit o v.permit ≡ Some e) none p)))
    | Some e ↦ (λ has. let q = (k.each other u there).permit e has in
        hears_by id v other u (put holder (who e) id) at there no_desk
        (λ j x e' b h p. put_else holder (who e) (who e') id (λ same. b (sym ((k.each j x h).permit e' p).1 ∙ ap holder same ∙ q.1)))
        (λ e' p. let same : Some e ≡ Some e' = subst (λ o. either_permit o v.permit ≡ Some e') has p in
        let r = (k.each other u there).permit e' (has ∙ same) in
        (r.0, put_here holder (who e) (who e') id (sym (ap (whose (who e)) same)), r.2)))
  ] refl
    where
      whose : ℕ → Option E → ℕ
      whose d None = d
      whose d (Some x) = who x
