-- Why a change may not come behind a history.
use Rattle.std.specs.Prelude.{ℕ, ◌+◌, ◌-◌, List, length, find, Option, Some, None, nat_le, nat_lt, if◌then◌else◌}
use Rattle.px_xpath.specs.Filters.{Way}
use Rattle.px_xpath.specs.Histories.{Change, Adds, Drops, Replaces, Subscription, size, live, live_size, is_of}
use Rattle.px_workload.specs.declared.refusal.Refusal.{Refusal}
use Rattle.px_workload.specs.declared.refusal.Refusal.TheVariants.{Unknown, TooLarge, NoVersions}

-- a history has at most 1,048,575 changes
abbrev pub refuses_all : List Change → Option Refusal
refuses_all history = if nat_le 1_048_575 (length history) then Some NoVersions else None

-- and live filters measure at most 500,000 together
abbrev pub refuses_beside : List Change → (others : ℕ) → Way → Option Refusal
refuses_beside history others filter = if nat_lt 500_000 (others + size filter) then Some (TooLarge others) else refuses_all history

-- a drop of the filter that is found under its id
abbrev pub refuses_drop : List Change → Option Subscription → Option Refusal
refuses_drop history None = Some Unknown
refuses_drop history (Some s) = refuses_all history

-- a filter in the place of the one that is found under its id
abbrev pub refuses_replacement : List Change → Option Subscription → Way → Option Refusal
refuses_replacement history None filter = Some Unknown
refuses_replacement history (Some s) filter = refuses_beside history (live_size (live history) - size s.filter) filter

abbrev pub refusal : List Change → Change → Option Refusal
refusal history (Adds who filter) = refuses_beside history (live_size (live history)) filter
refusal history (Drops who id) = refuses_drop history (find (is_of id) (live history))
refusal history (Replaces who id filter) = refuses_replacement history (find (is_of id) (live history)) filter
