-- Two lists of live filters, and what each says of the other's matches. Filters are compared by a test.
use Rattle.std.specs.Prelude.{◌≡◌, ℕ, Bool, not, ◌&&◌, List, [], ◌∷◌, map, filter, nat_eq, nat_lt, if◌then◌else◌}
use Rattle.std.specs.Bool.{Decides}
use Rattle.std.specs.List.{list_any}
use Rattle.px_xpath.specs.Filters.{Way}
use Rattle.px_xpath.specs.Histories.{Subscription}

-- the test tells which filters are the same
abbrev pub TellsSame : (Way → Way → Bool) → Type 0
TellsSame same = (a b : Way) → Decides (same a b) (a ≡ b)

-- the same filter under the same id
abbrev pub is_pair : (Way → Way → Bool) → Subscription → Subscription → Bool
is_pair same x y = nat_eq x.id y.id && same x.filter y.filter

-- the pairs of id and filter of the first list that are not in the second
abbrev pub without : (Way → Way → Bool) → List Subscription → List Subscription → List Subscription
without same xs ys = filter (λ x. not (list_any (is_pair same x) ys)) xs

-- the ids of those whose filter passes a test, in the order of the list
abbrev pub matching : (Way → Bool) → List Subscription → List ℕ
matching test list = map (λ s. s.id) (filter (λ s. test s.filter) list)

abbrev pub has_id : List Subscription → ℕ → Bool
has_id xs n = list_any (λ x. nat_eq x.id n) xs

-- the ids without those of these pairs
abbrev pub without_ids : List ℕ → List Subscription → List ℕ
without_ids ns xs = filter (λ n. not (has_id xs n)) ns

-- a rising list with one id more
abbrev pub insert_id : ℕ → List ℕ → List ℕ
insert_id n [] = n ∷ []
insert_id n (m ∷ ms) = if nat_eq n m then m ∷ ms else if nat_lt n m then n ∷ m ∷ ms else m ∷ insert_id n ms

-- two rising lists in one
abbrev pub merge : List ℕ → List ℕ → List ℕ
merge [] ns = ns
merge (m ∷ ms) ns = insert_id m (merge ms ns)
