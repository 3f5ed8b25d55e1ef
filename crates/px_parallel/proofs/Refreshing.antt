-- All passes of a hub are refreshed, where the first makes all changes.
use Rattle.std.proofs.Common.{◌≡◌, ℕ, zero, suc, ◌<◌, ◌⊎◌, inl, inr, false, List, [], ◌∷◌, ◌++◌, get_or, length, refl, sym, ap, ◌∙◌, subst, arith}
use Rattle.std.specs.Prelude.{All}
use Rattle.std.proofs.lemmas.List.{append-nil}
use Rattle.px_workload.specs.declared.change.Change.{Change}
use Rattle.px_workload.specs.Changes.{history}
use Rattle.px_xpath.specs.Histories.{IsLegal}
use Rattle.px_rule.specs.Histories.{named}
use Rattle.px_hub.specs.Entries.{who_of}
use Rattle.px_hub.specs.Passes.{PassView}
use Rattle.px_hub.specs.Calls.{Refreshed, seen_of}
use Rattle.px_hub.specs.AllOfThem.{HoldsEvery, AreClosed, AllRefreshed}
use Rattle.px_changer.specs.Alone.{AllBy, AreIdle, HoldEvery, IsAlone}
use Rattle.px_changer.proofs.Owning.{all_by_first, none_came}
use Rattle.px_parallel.specs.Leading.{AreLed, AllHaveSeen, seen_first}

module _ (passes : ℕ) where
  all_of_them : (first : PassView) (others : List PassView) → HoldEvery passes first.number others → HoldsEvery passes (first ∷ others)
  all_of_them first others every n low = elim (every n low) as (λ _. (k : ℕ) × (k < length (first ∷ others)) × ((d : PassView) → (get_or (first ∷ others) k d).number ≡ n)) [
    | inl same ↦ (0, omega arith, λ d. sym same)
    | inr other ↦ (suc other.0, (let low = other.1 in omega arith), other.2)
  ]

  pub led_every : (ps : List PassView) → AreLed passes ps → HoldsEvery passes ps
  led_every ps l = subst (λ (qs : List PassView). HoldsEvery passes qs) (sym l.are) (all_of_them l.first l.workers l.alone.every)

  closed_both : (first : PassView) (others : List PassView) → first.is_open ≡ false → AreClosed others → AreClosed (first ∷ others)
  closed_both first others one rest zero d low = one
  closed_both first others one rest (suc k) d low = rest k d (omega arith)

  pub led_closed : (ps : List PassView) → AreLed passes ps → AreClosed ps
  led_closed ps l = subst (λ (qs : List PassView). AreClosed qs) (sym l.are) (closed_both l.first l.workers l.alone.first_closed l.alone.closed)

  -- what refreshed passes are
  abbrev pub Led : (old new : List PassView) → Type 0
  Led old new = AreLed passes new × (seen_first new ≡ seen_first old) × AllHaveSeen (seen_first old) new

  module _ (banks version : ℕ) where
    -- the first has made all changes that it has seen
    module _ (v : PassView) (vs : List PassView) (w : PassView) (ws : List PassView) (alone : IsAlone passes v vs) (r : AllRefreshed banks version (v ∷ vs) (w ∷ ws))
        (below : All (λ c. who_of c < passes) (seen_of w)) (legal : IsLegal (history (seen_of w))) where
      there : (k : ℕ) → k < length ws → k < length vs
      there k low = let same = r.as_many in omega arith

      one : Refreshed banks version v w
      one = r.each 0 v (omega arith)

      each : (k : ℕ) (d : PassView) → k < length vs → Refreshed banks version (get_or vs k d) (get_or ws k d)
      each k d low = r.each (suc k) d (omega arith)

      idle : AreIdle ws
      idle k d low = (each k d (there k low)).came.mine ∙ alone.idle k d (there k low)

      every : HoldEvery passes w.number ws
      every n low = elim (alone.every n low) as (λ _. (n ≡ w.number) ⊎ ((k : ℕ) × (k < length ws) × ((d : PassView) → (get_or ws k d).number ≡ n))) [
        | inl same ↦ inl (same ∙ sym one.came.number)
        | inr other ↦ inr (other.0, (let same = r.as_many in let low = other.1 in omega arith), λ d. (each other.0 d other.1).came.number ∙ other.2 d)
      ]

      quiet : (k : ℕ) (d : PassView) → k < length ws → named who_of (get_or ws k d).number (seen_of w) ≡ []
      quiet k d low =
          let number = (get_or ws k d).number in
          ap (named who_of number) (r.same 0 (suc k) d (omega arith) (let low = there k low in omega arith)) ∙ (each k d (there k low)).came.own ∙ idle k d low

      own : AllBy w.number (seen_of w)
      own = all_by_first passes w.number ws w (seen_of w) below every quiet

      pub alone_still : IsAlone passes w ws
      alone_still = record {
        first_closed = one.closed;
        closed = λ k d low. (each k d (there k low)).closed;
        idle = idle;
        every = every;
        all_own = own;
        legal = legal;
      }

      pub same_still : seen_of w ≡ seen_of v
      same_still =
          let came = one.came in
          let own_v = subst (λ (y : ℕ × List Change). AllBy y.0 y.1) (λ i. (came.number i, came.seen i)) own in
          came.seen ∙ ap (λ (xs : List Change). seen_of v ++ xs) (none_came v.number (seen_of v) came.others own_v came.of_others) ∙ append-nil (seen_of v)

      all_seen : AllHaveSeen (seen_of v) (w ∷ ws)
      all_seen k d low = r.same k 0 d (let same = r.as_many in omega arith) (omega arith) ∙ same_still

      pub led_still : 0 < length vs → Led (v ∷ vs) (w ∷ ws)
      led_still some = (record { first = w; workers = ws; are = refl; some = (let same = r.as_many in omega arith); alone = alone_still }, same_still, all_seen)

    led_from : (v : PassView) (vs ws : List PassView) (x : PassView) → 0 < length vs → IsAlone passes v vs → AllRefreshed banks version (v ∷ vs) ws → All (λ c. who_of c < passes) (seen_of (get_or ws 0 x)) →
        IsLegal (history (seen_of (get_or ws 0 x))) → Led (v ∷ vs) ws
    led_from v vs [] x some alone r below legal = absurd (let same = r.as_many in omega arith)
    led_from v vs (w ∷ ws) x some alone r below legal = led_still v vs w ws alone r below legal some

    pub led_refreshed : (vs ws : List PassView) (x : PassView) → AreLed passes vs → AllRefreshed banks version vs ws → All (λ c. who_of c < passes) (seen_of (get_or ws 0 x)) →
        IsLegal (history (seen_of (get_or ws 0 x))) → Led vs ws
    led_refreshed vs ws x l r below legal =
        subst (λ (us : List PassView). Led us ws) (sym l.are)
        (led_from l.first l.workers ws x l.some l.alone (subst (λ (us : List PassView). AllRefreshed banks version us ws) l.are r) below legal)
