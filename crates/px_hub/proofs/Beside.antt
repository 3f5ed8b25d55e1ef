-- How large the live filters are but that of one id.
use Rattle.std.proofs.Common.{◌≡◌, ℕ, ◌+◌, ◌≤◌, Bool, true, false, not, List, [], ◌∷◌, map, find, IfSome, refl, sym, ap, ◌∙◌, subst, arith}
use Rattle.std.specs.Prelude.{◌==◌, filter}
use Rattle.std.proofs.lemmas.List.Sums.{sum_by-cons}
use Rattle.px_text.specs.Sets.{Above, Rising}
use Rattle.px_xpath.specs.declared.filter.Filter.{Filter}
use Rattle.px_xpath.specs.Whole as whole
use Rattle.px_xpath.specs.Histories.{Subscription, Replaces, after, live_size, size, is_of, IsLive, IsLegal}
use Rattle.px_workload.specs.declared.change.Change.{Change}
use Rattle.px_workload.specs.Changes.{history}
use Rattle.px_workload.proofs.Climbing.{live-rising}
use Rattle.px_hub.specs.Calls.{live_behind, size_behind, size_beside}

abbrev ids : List Subscription → List ℕ
ids = map (λ s. s.id)

abbrev without : ℕ → List Subscription → List Subscription
without id = filter (λ s. not (s.id == id))

-- an id below all is not among them
none_less : (id bound : ℕ) (live : List Subscription) → id ≤ bound → Above bound (ids live) → Rising (ids live) → without id live ≡ live
none_less id bound [] low above rising = refl
none_less id bound (x ∷ xs) low above rising =
    let other : (x.id == id) ≡ false = grind arith in
    rw other (ap (λ more. x ∷ more) (none_less id x.id xs (omega arith) rising.1 rising.2))

pub beside : (id r : ℕ) (live : List Subscription) → Rising (ids live) → IsLive id live → IfSome (find (is_of id) live) (λ s. r ≡ size s.filter) → live_size (without id live) + r ≡ live_size live
beside id r [] rising is_live sized = absurd (cc)
beside id r (x ∷ xs) rising is_live sized = on (beside id r xs rising.2) (x.id == id) refl
  where
    on : (IsLive id xs → IfSome (find (is_of id) xs) (λ s. r ≡ size s.filter) → live_size (without id xs) + r ≡ live_size xs) → (b : Bool) → (x.id == id) ≡ b → live_size (without id (x ∷ xs)) + r ≡ live_size (x ∷ xs)
    on here true same =
        let r_is : r ≡ size x.filter = rw same at sized in
        let low : id ≤ x.id = grind arith in
        let rest = ap live_size (none_less id x.id xs low rising.1 rising.2) in
        let all = sum_by-cons (λ s. size s.filter) x xs in
        rw same (omega (arith, r_is, rest, all))
    on here false other =
        let there : IsLive id xs = rw other at is_live in
        let size_there : IfSome (find (is_of id) xs) (λ s. r ≡ size s.filter) = rw other at sized in
        let less = here there size_there in
        let all = sum_by-cons (λ s. size s.filter) x xs in
        let kept = sum_by-cons (λ s. size s.filter) x (without id xs) in
        rw other (omega (arith, less, all, kept))

-- `all` is the size of all live filters, and r that of the filter of the id
module _ (id all r : ℕ) (changes seen : List Change) (same : changes ≡ seen) where
  pub sizes_add : IsLegal (history seen) → IsLive id (live_behind seen) → all ≡ size_behind changes → IfSome (find (is_of id) (live_behind changes)) (λ s. r ≡ size s.filter) → size_beside id seen + r ≡ all
  sizes_add legal is_live all_is r_is =
      let sized = subst (λ l. IfSome (find (is_of id) (live_behind l)) (λ s. r ≡ size s.filter)) same r_is in
      beside id r (live_behind seen) (live-rising (history seen) legal) is_live sized ∙ sym (all_is ∙ ap size_behind same)

  pub size_put_in : (new : Filter) → size_beside id seen + r ≡ all → all ≡ size_behind changes
      → live_size (after 0 (live_behind changes) (Replaces 0 id (whole.filter new))) + r ≡ size_behind changes + size (whole.filter new)
      → live_size (after 0 (live_behind seen) (Replaces 0 id (whole.filter new))) ≡ size_beside id seen + size (whole.filter new)
  size_put_in new add all_is sizes =
      let now = subst (λ l. live_size (after 0 (live_behind l) (Replaces 0 id (whole.filter new))) + r ≡ size_behind l + size (whole.filter new)) same sizes in
      let all_now = all_is ∙ ap size_behind same in omega arith
