-- A table with one slot for each version: the filter that the change of that version added, as long as it is live.
use Rattle.std.specs.Prelude.{ℕ, ◌+◌, not, ◌==◌, List, [], ◌∷◌, ◌++◌, Option, Some, None, option_map, map, filter, sum_by, if◌then◌else◌}
use Rattle.std.specs.Borrow.{Bor}
use Rattle.px_xpath.specs.declared.filter.Filter.{Filter}
use Rattle.px_xpath.specs.Histories.{Change, Adds, Drops, Replaces, Subscription, size}
use Rattle.px_xpath.specs.Whole as whole

abbrev pub named : (id : ℕ) → Filter → Subscription
named id f = record { id = id; filter = whole.filter f }

abbrev pub listed_one : (id : ℕ) → Option Filter → List Subscription
listed_one id None = []
listed_one id (Some f) = named id f ∷ []

-- what a slot holds that is read
abbrev pub read_slot : Option (Bor Filter) → Option Filter
read_slot slot = option_map (λ f. f.now) slot

-- the subscriptions in the slots behind this version
abbrev pub listed_from : (version : ℕ) → List (Option Filter) → List Subscription
listed_from version [] = []
listed_from version (slot ∷ slots) = listed_one (version + 1) slot ++ listed_from (version + 1) slots

abbrev pub listed : List (Option Filter) → List Subscription
listed slots = listed_from 0 slots

abbrev pub slot_size : Option Filter → ℕ
slot_size None = 0
slot_size (Some f) = size (whole.filter f)

abbrev pub slots_size : List (Option Filter) → ℕ
slots_size = sum_by slot_size

-- what a change leaves of the filters before it
abbrev pub kept : Change → List Subscription → List Subscription
kept (Adds who f) live = live
kept (Drops who id) live = filter (λ s. not (s.id == id)) live
kept (Replaces who id new) live = map (λ s. if s.id == id then record { id = id; filter = new } else s) live

-- what the change of this version adds behind them
abbrev pub added : (version : ℕ) → Change → List Subscription
added version (Adds who f) = record { id = version; filter = f } ∷ []
added version (Drops who id) = []
added version (Replaces who id new) = []
