-- The values that options have make a hub.
use Rattle.std.proofs.Common.{◌≡◌, ℕ, ◌≤◌, List, [], ◌∷◌, Some, None, refl, sym, subst, arith, slice_index_or}
use Rattle.px_options.specs.OptionWords.{values_in}
use Rattle.px_hub.specs.declared.config.Config.{Config}
use Rattle.px_hub.specs.Names.{IsValid}
use Rattle.xpush.specs.Forms.{feed_options, hub_of, load_options}
use Rattle.xpush.specs.Ranges.{AreWithin, HaveDefaults, IsWithin}
use Rattle.xpush.proofs.InRange.{values_within}

-- as many workers, banks and bits as a hub may have
pub record IsRoom (workers banks node_bits step_bits : ℕ) : Type 0 where
  pub for_workers : (1 ≤ workers) × (workers ≤ 64)
  pub for_banks : (1 ≤ banks) × (banks ≤ 16)
  pub for_nodes : (4 ≤ node_bits) × (node_bits ≤ 20)
  pub for_steps : (4 ≤ step_bits) × (step_bits ≤ 20)

-- the value of the rule stands for a value in the range
default_is : (least most wanted value : ℕ) → (least ≤ wanted) × (wanted ≤ most) → Some wanted ≡ Some value → (least ≤ value) × (value ≤ most)
default_is least most wanted value within e =
    let same : wanted ≡ value = cc in
    let P : ℕ → Type 0 = λ n. (least ≤ n) × (n ≤ most) in subst P same within

no_default : (least most value : ℕ) → None ≡ Some value → (least ≤ value) × (value ≤ most)
no_default least most value e = absurd (cc)

feed_defaults : HaveDefaults feed_options
feed_defaults = (
  no_default 1 64,
  (
    λ v. default_is 1 16 2 v (omega arith, omega arith),
    (
      λ v. default_is 4 20 16 v (omega arith, omega arith),
      (λ v. default_is 4 20 18 v (omega arith, omega arith), tt),
    ),
  ),
)

load_defaults : HaveDefaults load_options
load_defaults = (no_default 0 2147483647, (no_default 0 50000, (no_default 0 100000, feed_defaults)))

room_of_feed : (values : List ℕ) → AreWithin feed_options values → IsRoom (slice_index_or values 0 0) (slice_index_or values 1 0) (slice_index_or values 2 0) (slice_index_or values 3 0)
room_of_feed (workers ∷ banks ∷ node_bits ∷ step_bits ∷ []) within =
    record { for_workers = within.0; for_banks = within.1.0; for_nodes = within.1.1.0; for_steps = within.1.1.1.0 }
room_of_feed [] within = absurd within
room_of_feed (a ∷ []) within = absurd within.1
room_of_feed (a ∷ b ∷ []) within = absurd within.1.1
room_of_feed (a ∷ b ∷ c ∷ []) within = absurd within.1.1.1
room_of_feed (a ∷ b ∷ c ∷ d ∷ e ∷ rest) within = absurd within.1.1.1.1

-- of `feed`
pub feed_room : (words : List (List ℕ)) (values : List ℕ) → values_in feed_options words ≡ Some values →
    IsRoom (slice_index_or values 0 0) (slice_index_or values 1 0) (slice_index_or values 2 0) (slice_index_or values 3 0)
feed_room words values e = room_of_feed values (values_within feed_options words values feed_defaults e)

room_of_load : (values : List ℕ) → AreWithin load_options values → IsRoom (slice_index_or values 3 0) (slice_index_or values 4 0) (slice_index_or values 5 0) (slice_index_or values 6 0)
room_of_load (seed ∷ filters ∷ documents ∷ values) within = room_of_feed values within.1.1.1
room_of_load [] within = absurd within
room_of_load (a ∷ []) within = absurd within.1
room_of_load (a ∷ b ∷ []) within = absurd within.1.1

-- of `load`
pub load_room : (words : List (List ℕ)) (values : List ℕ) → values_in load_options words ≡ Some values →
    IsRoom (slice_index_or values 3 0) (slice_index_or values 4 0) (slice_index_or values 5 0) (slice_index_or values 6 0)
load_room words values e = room_of_load values (values_within load_options words values load_defaults e)

pub room_is_lawful : (config : Config) (workers banks node_bits step_bits : ℕ) → config ≡ hub_of workers banks node_bits step_bits → IsRoom workers banks node_bits step_bits →
    IsValid config × (2 ≤ config.passes)
room_is_lawful config workers banks node_bits step_bits e room =
    let P : Config → Type 0 = λ c. IsValid c × (2 ≤ c.passes) in
    let w = room.for_workers in
    subst P (sym e) ((omega (arith, w.1), (room.for_banks.0, room.for_banks.1, room.for_nodes.0, room.for_nodes.1, room.for_steps.0, room.for_steps.1)), omega (arith, w.0))
