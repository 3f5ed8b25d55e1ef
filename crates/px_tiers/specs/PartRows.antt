-- Worked values: of three filters in an old list the second was dropped and the first replaced; the first stands in a younger list, beside a fourth.
use Rattle.std.specs.Prelude.{◌≡◌, ℕ, Bool, true, false, ◌==◌, List, [], ◌∷◌, refl, if◌then◌else◌}
use Rattle.px_xpath.specs.declared.filter.Axis.TheVariants.{Child, Below}
use Rattle.px_xpath.specs.declared.filter.Test.TheVariants.{AnyElement}
use Rattle.px_xpath.specs.Filters.{Way, Arrived, StepThen, NoConditions}
use Rattle.px_xpath.specs.Histories.{Subscription}
use Rattle.px_tiers.specs.Parts.{Homes, AreLiveAtHome, ids_where, passes_at_home, without_home, moved, among}

near : Way
near = StepThen Child AnyElement NoConditions Arrived

far : Way
far = StepThen Below AnyElement NoConditions Arrived

is_far : Way → Bool
is_far Arrived = false
is_far (StepThen Child t conds onward) = false
is_far (StepThen Below t conds onward) = true

named : ℕ → Way → Subscription
named id filter = record { id = id; filter = filter }

old : List Subscription
old = named 1 far ∷ named 2 far ∷ named 3 far ∷ []

young : List Subscription
young = named 1 near ∷ named 4 far ∷ []

live : List Subscription
live = named 1 near ∷ named 3 far ∷ named 4 far ∷ []

homes : Homes
homes q = if q == 2 then 0 else if q == 3 then 1 else 2

shared : AreLiveAtHome homes 1 (old ∷ young ∷ []) live
unfolding homes old young live named
shared = (refl, (refl, tt))

-- the replaced filter passes where it was, but its id is not at home there
replaced : passes_at_home homes is_far 1 (old ∷ young ∷ []) 1 ≡ false
unfolding homes old young named is_far far near
replaced = refl

dropped : passes_at_home homes is_far 1 (old ∷ young ∷ []) 2 ≡ false
unfolding homes old young named is_far far near
dropped = refl

kept : passes_at_home homes is_far 1 (old ∷ young ∷ []) 3 ≡ true
unfolding homes old young named is_far far near
kept = refl

added : passes_at_home homes is_far 1 (old ∷ young ∷ []) 4 ≡ true
unfolding homes old young named is_far far near
added = refl

live_ids : ids_where is_far live ≡ 3 ∷ 4 ∷ []
unfolding live named is_far far near
live_ids = refl

-- A change takes the home of one id alone, and what is gathered moves together.
lost : without_home 3 homes 3 ≡ 0
unfolding homes
lost = refl

stays : without_home 3 homes 4 ≡ 2
unfolding homes
stays = refl

together : moved (3 ∷ 4 ∷ []) 7 homes 3 ≡ 7
unfolding homes
together = refl

beside : moved (3 ∷ 4 ∷ []) 7 homes 1 ≡ 2
unfolding homes
beside = refl

gathered : among (3 ∷ 9 ∷ []) live ≡ named 3 far ∷ []
unfolding live named
gathered = refl
