-- All passes of a hub are refreshed, one after the other.
use Rattle.std.proofs.Common.{◌≡◌, ◌≢◌, ℕ, suc, ◌+◌, ◌≤◌, ◌<◌, ◌⊎◌, inl, inr, true, false, leb, leb-true, leb-false, List, [], ◌∷◌, ◌++◌, get_or, set, length, length-append, refl, sym, ap, ◌∙◌, subst, arith}
use Rattle.std.specs.Prelude.{All, Result, Ok, Err, OnErr}
use Rattle.std.proofs.lemmas.List.{append-nil, length-set, get_or_default, get_or-set_same, get_or-set_other}
use mathlib.Core.Logic.{dite}
use native.Mathlib.Decide.{ℕ_discrete}
use Rattle.px_workload.specs.declared.change.Change.{Change}
use Rattle.px_rule.specs.Histories.{named}
use Rattle.px_rule.proofs.Beginnings.{named_own}
use Rattle.px_hub.specs.Entries.{who_of}
use Rattle.px_hub.specs.Passes.{PassView}
use Rattle.px_hub.specs.Calls.{Refreshed, seen_of}
use Rattle.px_hub.specs.AllOfThem.{HoldsEvery, AreClosed, AllRefreshed, SomeRefreshed, RefreshedAt}

module _ {A : Type 0} where
  -- a list is empty or has a last element
  last_of : (xs : List A) → (xs ≡ []) ⊎ ((front : List A) × (e : A) × (xs ≡ front ++ e ∷ []))
  last_of [] = inl refl
  last_of (x ∷ xs) = elim (last_of xs) as (λ _. (x ∷ xs ≡ []) ⊎ ((front : List A) × (e : A) × (x ∷ xs ≡ front ++ e ∷ [])))
      [ inl none ↦ inr ([], x, ap (λ l. x ∷ l) none) | inr r ↦ inr (x ∷ r.0, r.1, ap (λ l. x ∷ l) r.2) ]

  -- lists that are equal have equal last elements
  same_last : (xs ys : List A) (x y : A) → xs ++ x ∷ [] ≡ ys ++ y ∷ [] → x ≡ y
  same_last [] [] x y e = cc
  same_last [] (b ∷ ys) x y e = let long = ap length e in let more = length-append ys (y ∷ []) in absurd (omega arith)
  same_last (a ∷ xs) [] x y e = let long = ap length e in let more = length-append xs (x ∷ []) in absurd (omega arith)
  same_last (a ∷ xs) (b ∷ ys) x y e = let rest : xs ++ x ∷ [] ≡ ys ++ y ∷ [] = cc in same_last xs ys x y rest

  append_assoc : (xs ys zs : List A) → xs ++ (ys ++ zs) ≡ (xs ++ ys) ++ zs
  append_assoc [] ys zs = refl
  append_assoc (x ∷ xs) ys zs = ap (λ l. x ∷ l) (append_assoc xs ys zs)

-- the element at the end
at_last : {A : Type 0} (xs : List A) (x : A) (all : List A) → all ≡ xs ++ x ∷ [] → get_or all (length xs) x ≡ x
at_last xs x all is = ap (λ l. get_or l (length xs) x) is ∙ behind xs x
  where
    behind : {A : Type 0} (xs : List A) (x : A) → get_or (xs ++ x ∷ []) (length xs) x ≡ x
    behind [] x = refl
    behind (y ∷ ys) x = behind ys x

-- Entries came behind what a pass had seen, of which none names it, and the last entry of all names it: so none came
seen_all : (n : ℕ) (log front seen others : List Change) (e : Change) → who_of e ≡ n → log ≡ front ++ e ∷ [] → log ≡ seen ++ others → named who_of n others ≡ [] → seen ≡ log
seen_all n log front seen others e is_who last all none =
    elim (last_of others) as (λ _. seen ≡ log) [
      | inl empty ↦ sym (all ∙ (ap (λ l. seen ++ l) empty ∙ append-nil seen))
      | inr r ↦
          (let whole : log ≡ (seen ++ r.0) ++ r.1 ∷ [] = all ∙ (ap (λ l. seen ++ l) r.2 ∙ append_assoc seen r.0 (r.1 ∷ [])) in
          let same : e ≡ r.1 = same_last front (seen ++ r.0) e r.1 (sym last ∙ whole) in
          let own = named_own who_of n r.1 r.0 (ap who_of (sym same) ∙ is_who) in
          let long = ap length (sym own ∙ (ap (named who_of n) (sym r.2) ∙ none)) in
          let more = length-append (named who_of n r.0) (r.1 ∷ []) in absurd (omega arith))
    ]

-- the passes before `at` are refreshed, and the others as they were
pub record Sofar (banks passes : ℕ) (log : List Change) (at : ℕ) (vs ws : List PassView) : Type 0 where
  pub as_many : length ws ≡ length vs
  pub done : (k : ℕ) (d : PassView) → k < at → k < length vs → Refreshed banks (length log) (get_or vs k d) (get_or ws k d) × (seen_of (get_or ws k d) ≡ log)
  pub rest : (k : ℕ) (d : PassView) → at ≤ k → get_or ws k d ≡ get_or vs k d
  pub of_passes : 0 < at → All (λ c. who_of c < passes) log

module _ (banks passes : ℕ) (log : List Change) where
  pub none_yet : (vs : List PassView) → Sofar banks passes log 0 vs vs
  none_yet vs = record { as_many = refl; done = λ k d low. absurd (omega arith); rest = λ k d high. refl; of_passes = λ low. absurd (omega arith) }

  pub one_more : (at : ℕ) (vs us ws : List PassView) → Sofar banks passes log at vs us → at < length us → RefreshedAt banks passes log at us ws → Sofar banks passes log (at + 1) vs ws
  one_more at vs us ws s within r = subst (λ l. Sofar banks passes log (at + 1) vs l) (sym r.set_is) (record {
    as_many = length-set us at r.pass ∙ s.as_many;
    done = λ k d low there. dite (ℕ_discrete k at)
        (λ (here : k ≡ at).
        let now : get_or (set us at r.pass) k d ≡ r.pass = ap (λ (j : ℕ). get_or (set us at r.pass) j d) here ∙ get_or-set_same us at r.pass d within in
        let was : get_or us at d ≡ get_or vs k d = s.rest at d (omega arith) ∙ ap (λ (j : ℕ). get_or vs j d) (sym here) in
        (subst (λ (y : PassView × PassView). Refreshed banks (length log) y.0 y.1) (λ i. (was i, sym now i)) (r.refreshed d), ap seen_of now ∙ r.seen))
        (λ (no : k ≢ at).
        let now : get_or (set us at r.pass) k d ≡ get_or us k d = get_or-set_other us at k r.pass d no in
        let before = s.done k d (omega arith) there in
        (subst (λ (y : PassView). Refreshed banks (length log) (get_or vs k d) y) (sym now) before.0, ap seen_of now ∙ before.1));
    rest = λ k d high. get_or-set_other us at k r.pass d (λ e. absurd (omega arith)) ∙ s.rest k d (omega arith);
    of_passes = λ _. r.of_passes;
  })

  pub some_are : (at : ℕ) (vs ws : List PassView) → Sofar banks passes log at vs ws → SomeRefreshed banks vs ws
  some_are at vs ws s = record {
    as_many = s.as_many;
    each = λ k d low. elim (leb (suc k) at) as (λ b. leb (suc k) at ≡ b → (get_or ws k d ≡ get_or vs k d) ⊎ ((version : ℕ) × Refreshed banks version (get_or vs k d) (get_or ws k d))) [
      | true ↦ (λ e. let before = leb-true (suc k) at e in inr (length log, (s.done k d (omega arith) low).0))
      | false ↦ (λ e. let behind = leb-false (suc k) at e in inl (s.rest k d (omega arith)))
    ] refl;
  }

  -- no call is open on any of them
  pub closed_yet : (at : ℕ) (vs ws : List PassView) → Sofar banks passes log at vs ws → AreClosed vs → AreClosed ws
  closed_yet at vs ws s closed k d low =
      let there : k < length vs = let same = s.as_many in omega arith in
      elim (leb (suc k) at) as (λ b. leb (suc k) at ≡ b → (get_or ws k d).is_open ≡ false) [
        | true ↦ (λ e. let before = leb-true (suc k) at e in (s.done k d (omega arith) there).0.closed)
        | false ↦ (λ e. let behind = leb-false (suc k) at e in ap (λ (p : PassView). p.is_open) (s.rest k d (omega arith)) ∙ closed k d there)
      ] refl

  -- a pass had seen all before
  had_all : (vs ws : List PassView) → Sofar banks passes log (length vs) vs ws → HoldsEvery passes vs → 0 < length vs → (k : ℕ) × (k < length vs) × ((d : PassView) → length (seen_of (get_or vs k d)) ≡ length log)
  had_all vs ws s every some_pass =
      elim (last_of log) as (λ _. (k : ℕ) × (k < length vs) × ((d : PassView) → length (seen_of (get_or vs k d)) ≡ length log)) [
        | inl none ↦ (
          0,
          some_pass,
          λ d.
              let r = s.done 0 d some_pass some_pass in
              let long = ap length (sym r.0.came.seen ∙ (r.1 ∙ none)) in
              let parts = length-append (seen_of (get_or vs 0 d)) r.0.came.others in
              let whole = ap length none in omega arith,
        )
        | inr r ↦
            (let low : who_of r.1 < passes = subst (λ (c : Change). who_of c < passes) (at_last r.0 r.1 log r.2) (s.of_passes some_pass (length r.0) r.1 (let l = ap length r.2 in let m = length-append r.0 (r.1 ∷ []) in omega arith)) in
            let p = every (who_of r.1) low in (
              p.0,
              p.1,
              λ d.
                  let t = s.done p.0 d p.1 p.1 in
                  ap length (seen_all (who_of r.1) log r.0 (seen_of (get_or vs p.0 d)) t.0.came.others r.1 refl r.2 (sym t.1 ∙ t.0.came.seen) (subst (λ (n : ℕ). named who_of n t.0.came.others ≡ []) (p.2 d) t.0.came.of_others)),
            ))
      ]

  pub all_are : (version : ℕ) (vs ws : List PassView) → Sofar banks passes log (length vs) vs ws → HoldsEvery passes vs → version ≡ length log → AllRefreshed banks version vs ws
  all_are version vs ws s every is = subst (λ (n : ℕ). AllRefreshed banks n vs ws) (sym is) (record {
    as_many = s.as_many;
    each = λ k d low. (s.done k d low low).0;
    same = λ j k d low less. (s.done j d low low).1 ∙ sym (s.done k d less less).1;
    most = λ k d low.
        let r = s.done k d low low in
        let long = ap length (sym r.0.came.seen ∙ r.1) in
        let parts = length-append (seen_of (get_or vs k d)) r.0.came.others in omega arith;
    held = had_all vs ws s every;
  })

-- the pass at a place was refreshed
pub one_is : (banks passes version at : ℕ) (log : List Change) (vs : List PassView) (v w x : PassView) → at < length vs → v ≡ get_or vs at x → Refreshed banks version v w → seen_of w ≡ log
    → All (λ c. who_of c < passes) (seen_of w) → RefreshedAt banks passes log at vs (set vs at w)
one_is banks passes version at log vs v w x within is r seen of_passes = record {
  pass = w;
  set_is = refl;
  refreshed = λ d. subst (λ (y : ℕ × PassView). Refreshed banks y.0 y.1 w) (λ i. ((r.version_is ∙ ap length seen) i, (is ∙ get_or_default vs at x d within) i)) r;
  seen = seen;
  of_passes = subst (λ l. All (λ c. who_of c < passes) l) seen of_passes;
}

-- what holds in any case holds where there is an error
pub on_err : {A E : Type 0} (r : Result A E) (P : Type 0) → P → OnErr r P
on_err (Ok a) P p = tt
on_err (Err e) P p = p
