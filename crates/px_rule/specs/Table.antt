-- Which table a seat is of, and what a seat is as a value.
use Rattle.std.specs.Prelude.{◌≡◌, ℕ, ◌<◌, ◌≤◌, Bool, true, false, length}
use Rattle.atomic_table.specs.Seated.{TableId}
use Rattle.px_rule.specs.declared.shape.Shape.{Shape}
use Rattle.px_rule.specs.declared.view.Place.{Place}
use Rattle.px_rule.specs.declared.view.Place.TheVariants.{Outside, Inside, Stray}
use Rattle.px_rule.specs.declared.view.View.{View}
use Rattle.px_rule.specs.Rule.{is_pass, Alike}
use Rattle.px_rule.specs.Steps.{IsIn}

abbrev pub no_shape : Shape
no_shape = record { banks = 0; node_bits = 0; step_bits = 0 }

-- A table: what no other table shares with it, and its shape
pub record TableName : Type 0 where
  pub id : TableId
  pub shape : Shape

-- A seat: its table, and what it knows
pub record Seated (E : Type 0) : Type 0 where
  pub table : TableName
  pub view : View E

abbrev pub is_in : Place → Bool
is_in Outside = false
is_in (Inside k n) = true
is_in (Stray k) = true

abbrev pub is_inside : Place → Bool
is_inside Outside = false
is_inside (Inside k n) = true
is_inside (Stray k) = false

-- the bank that a place is in, and the version at which it is inside
abbrev pub bank_in : Place → ℕ
bank_in Outside = 0
bank_in (Inside k n) = k
bank_in (Stray k) = k

abbrev pub version_in : Place → ℕ
version_in Outside = 0
version_in (Inside k n) = n
version_in (Stray k) = 0

module _ {E : Type 0} where
  -- What holds of every seat: its parts are of one seat, only a pass is in a bank, a seat that is in a bank has its number, which is below the number of banks,
  -- and inside at a version it has seen so many changes
  pub record IsSeat (z : Shape) (bank : ℕ) (v : View E) : Type 0 where
    pub alike : Alike v
    pub out : is_pass v.past.kind ≡ false → v.stay.place ≡ Outside
    pub of_table : (k : ℕ) → IsIn k v.stay.place → (bank ≡ k) × (k < z.banks)
    pub seen : (k n : ℕ) → v.stay.place ≡ Inside k n → n ≤ length v.past.seen
