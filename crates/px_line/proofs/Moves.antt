-- Each move keeps the rule of a line.
use Rattle.std.proofs.Common.{◌≡◌, ◌≢◌, ℕ, zero, suc, ◌+◌, ◌-◌, ◌<◌, ◌≤◌, ◌⊎◌, Bool, true, false, cond, true≢false, List, [], ◌∷◌, ◌++◌, length, set, nat_eq, sym, refl, ap, ◌∙◌, subst, ⊎_elim, append_assoc, append-nil, arith, inl, inr}
use Rattle.std.proofs.lemmas.Bool.Decides.{eqb_tells}
use Rattle.std.specs.Prelude.{Option, Some, None}
use mathlib.Core.Option.{some, some-ne-none, some-injective}
use mathlib.Core.Logic.{dite}
use native.Mathlib.Decide.{ℕ_discrete}
use lib.ListN.{get_elem?}
use Rattle.crossbeam_queue.specs.Fifo.{Pushes, Pops, Forks, Merges, Learns as FifoLearns}
use Rattle.crossbeam_queue.proofs.Lists.{at_set}
use Rattle.px_rule.specs.Banks.{total}
use Rattle.px_rule.proofs.Views.{total_set, total_snoc, each_set, each_snoc, each_join, put, put_here, put_else}
use Rattle.px_crew.proofs.Parts.{total-append, sole}
use Rattle.px_line.specs.declared.rule.Known.{Known}
use Rattle.px_line.specs.Lines.{known, nobody, first, new_giver, new_taker, made, cut, with_given, with_taken, with_taker, with_ended, number_of, HasNumber, of, ended_of, Among, Follow, Fits, Standing, Waits, Learns, Takes}
use Rattle.px_line.proofs.Lists.{of_more, of_other, among_left, among_either, among_both, follow_more, nothing_there, two_le, same_some, some_is_not_none, none_is_not}

pub the_number : (o : Option ℕ) → HasNumber o → o ≡ Some (number_of o)
the_number None h = absurd h
the_number (Some n) h = refl

module _ {T : Type 0} (giver : T → ℕ) (Next : List T → T → Type 0) where
  -- a seat that gives nothing and has taken nothing knows nothing
  idle_fit : (seat : ℕ → Option ℕ) (all taken : List T) (port parts : ℕ) → Fits giver seat all taken port (known parts false None None [] [] [])
  idle_fit seat all taken port parts = record {
    gives = λ f e. absurd (none_is_not f e);
    makes = λ n f e low. absurd (none_is_not n e);
    ended = λ f its e. absurd (none_is_not its e);
    idle = λ _. refl;
    among = λ x at. absurd at;
    alone = λ e. absurd (true≢false (sym e));
  }

  pub begins : Standing giver Next [] (first ∷ [])
  begins = record {
    taken = [];
    seat = λ f. Some 0;
    follow = λ front x back e. absurd (nothing_there front x back e);
    parts = omega arith;
    once = λ h. omega arith;
    each = λ port v at. only port v at;
  }
    where
      fits : Fits giver (λ f. Some 0) [] [] 0 first
      fits = record {
        gives = λ f e. absurd (none_is_not f e);
        makes = λ n f e low. (refl, refl);
        ended = λ f its e. absurd (none_is_not its e);
        idle = λ _. refl;
        among = λ x at. at;
        alone = λ e. (refl, refl);
      }

      only : (port : ℕ) (v : Known T) → get_elem? (first ∷ []) port ≡ some v → Fits giver (λ f. Some 0) [] [] port v
      only zero v e = subst (Fits giver (λ f. Some 0) [] [] 0) (some-injective first v e) fits
      only (suc j) v e = absurd (some-ne-none v (sym e))

  -- the others, when the giver at a port has given an item
  others_give : (seat : ℕ → Option ℕ) (all taken : List T) (port j : ℕ) (u : Known T) (x : T) → seat (giver x) ≡ Some port → j ≢ port → Fits giver seat all taken j u → Fits giver seat (all ++ x ∷ []) taken j u
  others_give seat all taken port j u x at apart fit = record {
    gives = λ f e. let g = fit.gives f e in (g.0, g.1 ∙ sym (of_other giver f all x (λ is. apart (not_mine f is g.0))));
    makes = λ n f e low. let g = fit.makes n f e low in (g.0, of_other giver f all x (λ is. apart (not_mine f is g.0)) ∙ g.1);
    ended = λ f its e. let g = fit.ended f its e in (g.0, g.1 ∙ sym (of_other giver f all x (λ is. some_is_not_none port (seat f) (sym (ap seat is) ∙ at) g.0)));
    idle = fit.idle;
    among = fit.among;
    alone = fit.alone;
  }
    where
      not_mine : (f : ℕ) → giver x ≡ f → seat f ≡ Some j → j ≡ port
      not_mine f is there = same_some j port (sym there ∙ sym (ap seat is) ∙ at)

  own_give : (seat : ℕ → Option ℕ) (all taken : List T) (port : ℕ) (v : Known T) (x : T) → v.gives ≡ Some (giver x) → v.makes ≡ None → Fits giver seat all taken port v → Fits giver seat (all ++ x ∷ []) taken port (with_given v x)
  own_give seat all taken port v x mine makes_none fit = record {
    gives = λ f e. let g = fit.gives f e in (g.0, ap (λ (l : List T). l ++ x ∷ []) g.1 ∙ sym (of_more giver f all x (same_some (giver x) f (sym mine ∙ e))));
    makes = λ n f e low. absurd (none_is_not n (sym makes_none ∙ e));
    ended = λ f its e. let g = fit.ended f its e in (g.0, g.1 ∙ sym (of_other giver f all x (λ is. some_is_not_none port (seat f) (sym (ap seat is) ∙ (fit.gives (giver x) mine).0) g.0)));
    idle = fit.idle;
    among = fit.among;
    alone = fit.alone;
  }

  pub gives : (n port : ℕ) (v : Known T) (x : T) → v.gives ≡ Some (giver x) → v.makes ≡ None → Next v.given x → Pushes (Standing giver Next) n port v x (λ w. w ≡ with_given v x)
  gives n port v x mine makes_none next items views _ s at =
      let w = with_given v x in
      let fit = s.each port v at in
      let own = fit.gives (giver x) mine in
      let more : s.taken ++ (items ++ x ∷ []) ≡ (s.taken ++ items) ++ x ∷ [] = sym (append_assoc s.taken items (x ∷ [])) in (
        w,
        record {
          taken = s.taken;
          seat = s.seat;
          follow = subst (Follow giver Next) (sym more) (follow_more giver Next (s.taken ++ items) x s.follow (subst (λ (l : List T). Next l x) own.1 next));
          parts = let t = total_set (λ (u : Known T). u.parts) views port v w at in let p = s.parts in omega arith;
          once = λ h. let t = total_set (λ (u : Known T). total h u.taken) views port v w at in let p = s.once h in omega arith;
          each = each_set (λ j u. Fits giver s.seat (s.taken ++ (items ++ x ∷ [])) s.taken j u) views port w
              (λ j u other e. subst (λ (l : List T). Fits giver s.seat l s.taken j u) (sym more) (others_give s.seat (s.taken ++ items) s.taken port j u x own.0 other (s.each j u e)))
              (subst (λ (l : List T). Fits giver s.seat l s.taken port w) (sym more) (own_give s.seat (s.taken ++ items) s.taken port v x mine makes_none fit));
        },
        refl,
      )

  -- the others, when an item was taken
  others_take : (seat : ℕ → Option ℕ) (all taken : List T) (j : ℕ) (u : Known T) (x : T) → (u.alone ≡ true → ⊥) → Fits giver seat all taken j u → Fits giver seat all (taken ++ x ∷ []) j u
  others_take seat all taken j u x not_alone fit = record {
    gives = fit.gives;
    makes = fit.makes;
    ended = fit.ended;
    idle = fit.idle;
    among = λ y at. among_left y taken (x ∷ []) (fit.among y at);
    alone = λ e. absurd (not_alone e);
  }

  own_take : (seat : ℕ → Option ℕ) (all taken : List T) (port : ℕ) (v : Known T) (x : T) → 0 < v.parts → Fits giver seat all taken port v → Fits giver seat all (taken ++ x ∷ []) port (with_taken v x)
  own_take seat all taken port v x part fit = record {
    gives = fit.gives;
    makes = fit.makes;
    ended = fit.ended;
    idle = λ z. absurd (omega arith);
    among = λ y at. among_both y v.taken (x ∷ []) taken (x ∷ []) (fit.among y) (λ z. z) at;
    alone = λ e. let g = fit.alone e in (g.0, ap (λ (l : List T). l ++ x ∷ []) g.1);
  }

  pub takes : (port : ℕ) (v : Known T) → 0 < v.parts → Pops (Standing giver Next) port v (Takes giver Next v)
  takes port v part x items views s at =
      let w = with_taken v x in
      let fit = s.each port v at in
      let same : (s.taken ++ x ∷ []) ++ items ≡ s.taken ++ (x ∷ items) = append_assoc s.taken (x ∷ []) items in (
        w,
        record {
          taken = s.taken ++ x ∷ [];
          seat = s.seat;
          follow = subst (Follow giver Next) (sym same) s.follow;
          parts = let t = total_set (λ (u : Known T). u.parts) views port v w at in let p = s.parts in omega arith;
          once = λ h. let t = total_set (λ (u : Known T). total h u.taken) views port v w at in let p = s.once h in
              let a = total-append h v.taken (x ∷ []) in let b = total-append h s.taken (x ∷ []) in omega arith;
          each = each_set (λ j u. Fits giver s.seat ((s.taken ++ x ∷ []) ++ items) (s.taken ++ x ∷ []) j u) views port w
              (λ j u other e. subst (λ (l : List T). Fits giver s.seat l (s.taken ++ x ∷ []) j u) (sym same)
              (others_take s.seat (s.taken ++ (x ∷ items)) s.taken j u x
              (λ lone. let p = ((s.each j u e).alone lone).0 in let t = two_le (λ (y : Known T). y.parts) views j port u v other e at in let q = s.parts in absurd (omega arith))
              (s.each j u e)))
              (subst (λ (l : List T). Fits giver s.seat l (s.taken ++ x ∷ []) port w) (sym same) (own_take s.seat (s.taken ++ (x ∷ items)) s.taken port v x part fit));
        },
        (refl, λ lone. subst (λ (l : List T). Next (of giver (giver x) l) x) (sym (fit.alone lone).1) (s.follow s.taken x items refl)),
      )

  pub cuts : (port : ℕ) (v : Known T) → 1 < v.parts → Forks (Standing giver Next) port v (cut (v.parts - 1) v) new_taker
  cuts port v two items views s at =
      let l = cut (v.parts - 1) v in
      let F : ℕ → Known T → Type 0 = λ j u. Fits giver s.seat (s.taken ++ items) s.taken j u in
      let fit = s.each port v at in record {
        taken = s.taken;
        seat = s.seat;
        follow = s.follow;
        parts = let t = total_set (λ (u : Known T). u.parts) views port v l at in let q = total_snoc (λ (u : Known T). u.parts) (set views port l) new_taker in let p = s.parts in omega arith;
        once = λ h. let t = total_set (λ (u : Known T). total h u.taken) views port v l at in let q = total_snoc (λ (u : Known T). total h u.taken) (set views port l) new_taker in let p = s.once h in omega arith;
        each = each_snoc F (set views port l) new_taker
            (each_set F views port l (λ j u _ e. s.each j u e)
            (record { gives = fit.gives; makes = fit.makes; ended = fit.ended; idle = λ z. absurd (omega arith); among = fit.among; alone = λ e. absurd (true≢false (sym e)) }))
            (idle_fit s.seat (s.taken ++ items) s.taken (length (set views port l)) 1);
      }

  -- a seat whose givers are others than n, once n has its own seat
  others_made : (seat : ℕ → Option ℕ) (all taken : List T) (port j new n : ℕ) (u : Known T) → seat n ≡ Some port → j ≢ port → Fits giver seat all taken j u → Fits giver (put seat n (Some new)) all taken j u
  others_made seat all taken port j new n u at apart fit = record {
    gives = λ f e. let g = fit.gives f e in (put_else seat n f (Some new) (not_it f g.0) ∙ g.0, g.1);
    makes = λ m f e low. let g = fit.makes m f e low in (put_else seat n f (Some new) (not_it f g.0) ∙ g.0, g.1);
    ended = λ f its e. let g = fit.ended f its e in (put_else seat n f (Some new) (λ is. some_is_not_none port (seat f) (ap seat is ∙ at) g.0) ∙ g.0, g.1);
    idle = fit.idle;
    among = fit.among;
    alone = fit.alone;
  }
    where
      not_it : (f : ℕ) → seat f ≡ Some j → f ≢ n
      not_it f there is = apart (same_some j port (sym there ∙ ap seat is ∙ at))

  own_made : (seat : ℕ → Option ℕ) (all taken : List T) (port new n : ℕ) (v : Known T) → v.makes ≡ Some n → v.gives ≡ None → Fits giver seat all taken port v → Fits giver (put seat n (Some new)) all taken port (made n v)
  own_made seat all taken port new n v mine gives_none fit = record {
    gives = λ f e. absurd (none_is_not f (sym gives_none ∙ e));
    makes = λ m f e low. let is = same_some (n + 1) m e in let g = fit.makes n f mine (omega arith) in (put_else seat n f (Some new) (λ q. absurd (omega arith)) ∙ g.0, g.1);
    ended = λ f its e. let g = fit.ended f its e in (put_else seat n f (Some new) (λ is. some_is_not_none port (seat f) (ap seat is ∙ (fit.makes n n mine (omega arith)).0) g.0) ∙ g.0, g.1);
    idle = fit.idle;
    among = fit.among;
    alone = fit.alone;
  }

  giver_made : (seat : ℕ → Option ℕ) (all taken : List T) (new n : ℕ) → of giver n all ≡ [] → Fits giver (put seat n (Some new)) all taken new (new_giver n)
  giver_made seat all taken new n nothing = record {
    gives = λ f e. let is = same_some n f e in (put_here seat n f (Some new) (sym is), sym (ap (λ m. of giver m all) (sym is) ∙ nothing));
    makes = λ m f e low. absurd (none_is_not m e);
    ended = λ f its e. absurd (none_is_not its e);
    idle = λ _. refl;
    among = λ x at. absurd at;
    alone = λ e. absurd (true≢false (sym e));
  }

  pub makes : (port : ℕ) (v : Known T) → HasNumber v.makes → v.gives ≡ None → Forks (Standing giver Next) port v (made (number_of v.makes) v) (new_giver (number_of v.makes))
  makes port v may gives_none items views s at =
      let n = number_of v.makes in
      let mine : v.makes ≡ Some n = the_number v.makes may in
      let l = made n v in let r : Known T = new_giver n in
      let new = length (set views port l) in
      let fit = s.each port v at in
      let own = fit.makes n n mine (omega arith) in
      let F : ℕ → Known T → Type 0 = λ j u. Fits giver (put s.seat n (Some new)) (s.taken ++ items) s.taken j u in record {
        taken = s.taken;
        seat = put s.seat n (Some new);
        follow = s.follow;
        parts = let t = total_set (λ (u : Known T). u.parts) views port v l at in let q = total_snoc (λ (u : Known T). u.parts) (set views port l) r in let p = s.parts in omega arith;
        once = λ h. let t = total_set (λ (u : Known T). total h u.taken) views port v l at in let q = total_snoc (λ (u : Known T). total h u.taken) (set views port l) r in let p = s.once h in omega arith;
        each = each_snoc F (set views port l) r
            (each_set F views port l (λ j u other e. others_made s.seat (s.taken ++ items) s.taken port j new n u own.0 other (s.each j u e)) (own_made s.seat (s.taken ++ items) s.taken port new n v mine gives_none fit))
            (giver_made s.seat (s.taken ++ items) s.taken new n own.1);
      }

  -- what was there before the other view changed
  was_there : (views : List (Known T)) (port other : ℕ) (b u : Known T) → (other ≡ port → ⊥) → get_elem? (set views port b) other ≡ some u → get_elem? views other ≡ some u
  was_there views port other b u apart there =
      ⊎_elim (λ (t : (other ≡ port) × (b ≡ u)). absurd (apart t.0)) (λ (t : (other ≢ port) × (get_elem? views other ≡ some u)). t.1) (at_set views port other b u there)

  pub joins : (port : ℕ) (v : Known T) (other : ℕ) (u : Known T) → Merges (Standing giver Next) port v other u (with_taker v u) nobody
  joins port v other u items views s at apart there =
      let b : Known T = with_taker v u in
      let mine = s.each port v at in
      let theirs = s.each other u (was_there views port other b u apart there) in
      let F : ℕ → Known T → Type 0 = λ j x. Fits giver s.seat (s.taken ++ items) s.taken j x in record {
        taken = s.taken;
        seat = s.seat;
        follow = s.follow;
        parts = let t = total_set (λ (x : Known T). x.parts) views port v b at in let q = total_set (λ (x : Known T). x.parts) (set views port b) other u nobody there in let p = s.parts in omega arith;
        once = λ h. let t = total_set (λ (x : Known T). total h x.taken) views port v b at in let q = total_set (λ (x : Known T). total h x.taken) (set views port b) other u nobody there in let p = s.once h in
            let a = total-append h v.taken u.taken in omega arith;
        each = each_join F views port other b nobody (λ j x _ _ e. s.each j x e)
            (record {
              gives = mine.gives;
              makes = mine.makes;
              ended = mine.ended;
              idle = λ e. (λ i. mine.idle (let q : v.parts ≡ 0 = omega arith in q) i ++ theirs.idle (let q : u.parts ≡ 0 = omega arith in q) i);
              among = λ x in_. among_either x v.taken u.taken s.taken (mine.among x) (theirs.among x) in_;
              alone = λ e. absurd (true≢false (sym e));
            })
            (idle_fit s.seat (s.taken ++ items) s.taken other 0);
      }

  gone : (seat : ℕ → Option ℕ) (f g : ℕ) → seat g ≡ None → put seat f None g ≡ None
  gone seat f g none = dite (ℕ_discrete g f) (λ is. put_here seat f g None is) (λ apart. put_else seat f g None apart ∙ none)

  -- a seat whose givers are others than f, once f was taken in
  others_ended : (seat : ℕ → Option ℕ) (all taken : List T) (other j f : ℕ) (u : Known T) → seat f ≡ Some other → (j ≡ other → ⊥) → Fits giver seat all taken j u → Fits giver (put seat f None) all taken j u
  others_ended seat all taken other j f u at apart fit = record {
    gives = λ g e. let h = fit.gives g e in (put_else seat f g None (not_it g h.0) ∙ h.0, h.1);
    makes = λ m g e low. let h = fit.makes m g e low in (put_else seat f g None (not_it g h.0) ∙ h.0, h.1);
    ended = λ g its e. let h = fit.ended g its e in (gone seat f g h.0, h.1);
    idle = fit.idle;
    among = fit.among;
    alone = fit.alone;
  }
    where
      not_it : (g : ℕ) → seat g ≡ Some j → g ≢ f
      not_it g there is = apart (same_some j other (sym there ∙ ap seat is ∙ at))

  own_ended : (seat : ℕ → Option ℕ) (all taken : List T) (port other f : ℕ) (v : Known T) (its : List T) → seat f ≡ Some other → (port ≡ other → ⊥) → its ≡ of giver f all → Fits giver seat all taken port v → Fits giver (put seat f None) all taken port (with_ended v f its)
  own_ended seat all taken port other f v its at apart is fit =
      let o = others_ended seat all taken other port f v at apart fit in record {
        gives = o.gives;
        makes = o.makes;
        ended = λ g theirs e. by_test g theirs (eqb_tells f g) e;
        idle = o.idle;
        among = o.among;
        alone = o.alone;
      }
    where
      by_test : (g : ℕ) (theirs : List T) → ((nat_eq f g ≡ true) × (f ≡ g)) ⊎ ((nat_eq f g ≡ false) × (f ≢ g)) → cond (nat_eq f g) (Some its) (ended_of g v.ended) ≡ Some theirs → (put seat f None g ≡ None) × (theirs ≡ of giver g all)
      by_test g theirs (inl t) e =
          let h : Some its ≡ Some theirs = sym (ap (λ (b : Bool). cond b (Some its) (ended_of g v.ended)) t.0) ∙ e in
          (put_here seat f g None (sym t.1), sym (same_some its theirs h) ∙ is ∙ ap (λ m. of giver m all) t.1)
      by_test g theirs (inr t) e =
          let h = fit.ended g theirs (sym (ap (λ (b : Bool). cond b (Some its) (ended_of g v.ended)) t.0) ∙ e) in
          (gone seat f g h.0, h.1)

  pub ends : (port : ℕ) (v : Known T) (other : ℕ) (u : Known T) → HasNumber u.gives → u.parts ≡ 0 → Merges (Standing giver Next) port v other u (with_ended v (number_of u.gives) u.given) nobody
  ends port v other u may idle items views s at apart there =
      let f = number_of u.gives in
      let b : Known T = with_ended v f u.given in
      let mine = s.each port v at in
      let theirs = s.each other u (was_there views port other b u apart there) in
      let its = theirs.gives f (the_number u.gives may) in
      let F : ℕ → Known T → Type 0 = λ j x. Fits giver (put s.seat f None) (s.taken ++ items) s.taken j x in record {
        taken = s.taken;
        seat = put s.seat f None;
        follow = s.follow;
        parts = let t = total_set (λ (x : Known T). x.parts) views port v b at in let q = total_set (λ (x : Known T). x.parts) (set views port b) other u nobody there in let p = s.parts in omega arith;
        once = λ h. let t = total_set (λ (x : Known T). total h x.taken) views port v b at in let q = total_set (λ (x : Known T). total h x.taken) (set views port b) other u nobody there in let p = s.once h in
            let z : total h u.taken ≡ 0 = ap (total h) (theirs.idle idle) in omega arith;
        each = each_join F views port other b nobody (λ j x _ apart_from e. others_ended s.seat (s.taken ++ items) s.taken other j f x its.0 apart_from (s.each j x e))
            (own_ended s.seat (s.taken ++ items) s.taken port other f v u.given its.0 (λ e. apart (sym e)) its.1 mine)
            (idle_fit (put s.seat f None) (s.taken ++ items) s.taken other 0);
      }

  pub waits : (port : ℕ) (v : Known T) → FifoLearns (Standing giver Next) port v (Waits giver v)
  waits port v items views s at f e = (s.taken, ((s.each port v at).gives f e).1)

  pub learns : (port : ℕ) (v : Known T) → FifoLearns (Standing giver Next) port v (Learns giver Next v)
  learns port v items views s at =
      let fit = s.each port v at in record {
        taken = s.taken;
        follow = s.follow;
        ended = λ f its e. (fit.ended f its e).1;
        among = fit.among;
        once = λ all h. sym (sole (λ (u : Known T). u.parts) (λ (u : Known T). total h u.taken) views port v (λ j u e z. ap (total h) ((s.each j u e).idle z)) at (s.parts ∙ sym all)) ∙ s.once h;
        alone = λ e. (fit.alone e).1;
      }
