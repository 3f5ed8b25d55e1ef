-- What a journal's filters keep.
use Rattle.std.proofs.Common.{◌≡◌, ◌+◌, ◌≤◌, ◌∙◌, ℕ, Bool, false, refl, List, [], ◌∷◌, ◌++◌, length, length-append, map, ap, arith, sym, subst}
use Rattle.std.specs.Prelude.{Option, Some, None, is_some}
use Rattle.std.proofs.lemmas.List.{length-map}
use Rattle.px_afa.specs.Sound.{AreLive, AreRising}
use Rattle.px_text.specs.Sets.{Rising}
use Rattle.px_workload.proofs.Standing.{live-behind, one_more}
use Rattle.px_workload.specs.declared.change.Change.{Change}
use Rattle.px_workload.specs.Changes.{change, history}
use Rattle.px_xpath.specs.declared.numbered.Numbered.{Numbered}
use Rattle.px_xpath.specs.Histories as histories
use Rattle.px_xpath.specs.Histories.{Subscription, IsLegal, after, live, live_size}
use Rattle.px_xpath.specs.Subscribed.{subscriptions}

rises : (ids : List ℕ) → Rising ids → AreRising ids
rises [] h = h
rises (id ∷ ids) h = (h.1, rises ids h.2)

-- filters whose ids rise, and that are small together
pub is_live : (filters : List Subscription) → Rising (map (λ s. s.id) filters) → live_size filters ≤ 500_000 → AreLive filters
is_live filters rising small = record { ids_rise = rises (map (λ s. s.id) filters) rising; few = small }

-- there is no refusal where it was asked whether there is one
pub none_is : {A : Type 0} (o : Option A) {asked : Bool} → asked ≡ is_some o → asked ≡ false → o ≡ None
none_is None e f = refl
none_is (Some x) e f = let g = sym e ∙ f in cc

-- a change that may come, where the journal has made room
pub may_come : (before now : List Change) (c : Change) → now ≡ before → IsLegal (history (before ++ c ∷ [])) → IsLegal (history (now ++ c ∷ []))
may_come before now c same legal = let P : List Change → Type 0 = λ changes. IsLegal (history (changes ++ c ∷ [])) in subst P (sym same) legal

-- the version of a change that came is above the ids before it
pub comes_next : (before now all : List Change) (filters : List Numbered) (c : Change) (version : ℕ) →
    ((h : List histories.Change) (x : histories.Change) → IsLegal (h ++ x ∷ []) → Rising (map (λ s. s.id) (live h) ++ (length h + 1) ∷ [])) →
    IsLegal (history (now ++ c ∷ [])) → now ≡ before → all ≡ now ++ c ∷ [] → version ≡ length all → subscriptions filters ≡ live (history before) →
    Rising (map (λ s. s.id) (subscriptions filters) ++ version ∷ [])
comes_next before now all filters c version law legal same is v lists =
    let P : List histories.Change → Type 0 = IsLegal in
    let next = law (history now) (change c) (subst P (one_more now c) legal) in
    let here = lists ∙ ap (λ l. live (history l)) (sym same) in
    let long = length-map now change in
    let longer = length-append now (c ∷ []) in
    let n : version ≡ length (history now) + 1 = omega (arith, long, longer, v, ap length is) in
    let Q : List Subscription → ℕ → Type 0 = λ l m. Rising (map (λ s. s.id) l ++ m ∷ []) in
    subst (λ m. Q (subscriptions filters) m) (sym n) (subst (λ l. Q l (length (history now) + 1)) (sym here) next)

-- a list that took the change lists what is live behind it
pub stays_listed : (before now all : List Change) (old new : List Numbered) (c : Change) (taken : histories.Change) (version : ℕ) →
    now ≡ before → all ≡ now ++ c ∷ [] → version ≡ length all → taken ≡ change c → subscriptions old ≡ live (history before) →
    subscriptions new ≡ after version (subscriptions old) taken → subscriptions new ≡ live (history all)
stays_listed before now all old new c taken version same is v shared lists took =
    let here = lists ∙ ap (λ l. live (history l)) (sym same) in
    let longer = length-append now (c ∷ []) in
    let n : version ≡ length now + 1 = omega (arith, longer, v, ap length is) in
    took ∙ ap (λ m. after m (subscriptions old) taken) n ∙ ap (λ l. after (length now + 1) l taken) here
    ∙ ap (after (length now + 1) (live (history now))) shared ∙ sym (live-behind now c) ∙ ap (λ l. live (history l)) (sym is)
