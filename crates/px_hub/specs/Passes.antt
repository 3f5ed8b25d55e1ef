-- What contracts see of a pass and of the desk, and what a pass, a note and the desk keep.
use Rattle.std.specs.Prelude.{◌≡◌, ℕ, ◌<◌, ◌≤◌, Bool, true, false, List, take, length, All, None, refl}
use Rattle.std.specs.Coded.{Coded, code_by, coded×, coded_ℕ, coded_bool}
use mathlib.Core.Option.{some}
use lib.ListN.{get_elem?}
use Rattle.px_xpath.specs.declared.numbered.Numbered.{Numbered}
use Rattle.px_xpath.specs.Histories.{live, IsLegal}
use Rattle.px_xpath.specs.Subscribed.{subscriptions}
use Rattle.px_afa.specs.Building.{program}
use Rattle.px_workload.specs.declared.change.Change.{Change}
use Rattle.px_workload.specs.contracts.change.Change.{the_row as change_row}
use Rattle.px_workload.specs.Changes.{history}
use Rattle.px_rule.specs.declared.view.Kind.TheVariants.{Desk, Pass}
use Rattle.px_rule.specs.declared.view.Place.TheVariants.{Outside}
use Rattle.px_rule.specs.declared.view.Busy.{Busy}
use Rattle.px_rule.specs.declared.view.View.{View}
use Rattle.px_rule.specs.contracts.view.View.{the_row as view_row}
use Rattle.px_rule.specs.Histories.{named}
use Rattle.px_rule.specs.Steps.{is_note}
use Rattle.px_rule.specs.Table.{TableName, Seated}
use Rattle.std.specs.Arc.{arc_value}
use Rattle.px_hub.specs.declared.home.Home.{Home}
use Rattle.px_hub.specs.declared.home.Home.TheVariants.{Bank, NoBank}
use Rattle.px_hub.specs.contracts.home.Home.{the_row as home_row}
use Rattle.px_hub.specs.declared.at_version.AtVersion.{AtVersion}
use Rattle.px_hub.specs.Entries.{who_of}
use Rattle.px_hub.specs.Banking.{AreStands}

abbrev pub view_code : Coded (View Change)
view_code = (view_row change_row).coded

-- A pass: its number, what it knows, the version of its program, its bank, and whether a call that filters is open on it
pub record PassView : Type 0 where
  pub number : ℕ
  pub view : View Change
  pub have : ℕ
  pub home : Home
  pub is_open : Bool

-- it is stored as the pair of its fields
abbrev pub pass_code : Coded PassView
pass_code =
    code_by (ℕ × (View Change × (ℕ × (Home × Bool)))) (coded× coded_ℕ (coded× view_code (coded× coded_ℕ (coded× home_row.coded coded_bool))))
    (λ v. (v.number, (v.view, (v.have, (v.home, v.is_open))))) (λ p. record { number = p.0; view = p.1.0; have = p.1.1.0; home = p.1.1.1.0; is_open = p.1.1.1.1 }) (λ _. refl)

abbrev pub pass_view : ℕ → View Change → ℕ → Home → Bool → PassView
pass_view number view have home is_open = record { number = number; view = view; have = have; home = home; is_open = is_open }

-- The changes name passes of the hub, and are a legal history
pub record IsSeen (passes : ℕ) (seen : List Change) : Type 0 where
  pub of_passes : All (λ c. who_of c < passes) seen
  pub is_legal : IsLegal (history seen)

-- The live filters behind the changes
abbrev pub AreLiveBehind : List Change → List Numbered → Type 0
AreLiveBehind seen filters = subscriptions filters ≡ live (history seen)

-- It is the machine of the first changes, as many as its version
pub record IsBuilt (seen : List Change) (c : AtVersion) : Type 0 where
  pub within : c.version ≤ length seen
  pub live : AreLiveBehind (take c.version seen) (arc_value c.live).filters
  pub compiled : arc_value c.compiled ≡ program (history (take c.version seen))
  pub program : arc_value c.program ≡ program (history (take c.version seen))

-- a claim of bank k for version n found the word, and was made for this pass
abbrev pub IsBusyFor : ℕ → ℕ → ℕ → ℕ → Busy → Type 0
IsBusyFor number k n word e = (e.bank ≡ k) × (e.new ≡ n) × (e.word ≡ word) × (e.pass ≡ number)

-- The pass has been told that its bank stood at its version, or has for each bank the word of a claim for it that failed
abbrev pub IsHome : ℕ → ℕ → ℕ → View Change → Home → Type 0
IsHome banks number n v (Bank k) = (k < banks) × ((i : ℕ) × (get_elem? v.stay.stays i ≡ some (k, n)))
IsHome banks number n v (NoBank words) = (length words ≡ banks)
    × ((k word : ℕ) → get_elem? words k ≡ some word → (i : ℕ) × (e : Busy) × (get_elem? v.stay.busy i ≡ some e) × IsBusyFor number k n word e)

-- What holds of every pass
pub record IsPass (table : TableName) (passes : ℕ) (at : TableName) (version : ℕ) (filters : List Numbered) (c : AtVersion) (p : PassView) : Type 0 where
  pub at_table : at ≡ table
  pub kind : p.view.past.kind ≡ Pass p.number
  pub below : p.number < passes
  pub own : named who_of p.number p.view.past.seen ≡ p.view.past.mine
  pub seen : IsSeen passes p.view.past.seen
  pub version_is : version ≡ length p.view.past.seen
  pub live : AreLiveBehind p.view.past.seen filters
  pub built : IsBuilt p.view.past.seen c
  pub home : IsHome table.shape.banks p.number p.have p.view p.home
  pub outside : p.is_open ≡ false → p.view.stay.place ≡ Outside

-- What holds of every note
pub record IsNote (table : TableName) (passes : ℕ) (seat : Seated Change) (version : ℕ) (filters : List Numbered) : Type 0 where
  pub at_table : seat.table ≡ table
  pub kind : is_note seat.view.past.kind ≡ true
  pub permit : seat.view.past.permit ≡ None
  pub seen : IsSeen passes seat.view.past.seen
  pub version_is : version ≡ length seat.view.past.seen
  pub live : AreLiveBehind seat.view.past.seen filters

-- What holds of the desk whenever no caller has the lock: its journal is what its seat has seen, it holds no permit, and no bank is being built
pub record IsDesk (table : TableName) (passes : ℕ) (seat : Seated Change) (journal : List Change) (versions : List ℕ) (c : AtVersion) : Type 0 where
  pub at_table : seat.table ≡ table
  pub kind : seat.view.past.kind ≡ Desk
  pub keeps : seat.view.stay.keeps ≡ true
  pub permit : seat.view.past.permit ≡ None
  pub seen : seat.view.past.seen ≡ journal
  pub made : seat.view.past.made ≡ passes
  pub stands : AreStands table.shape.banks versions seat.view.stay.stands
  pub reached : All (λ n. n ≤ length journal) versions
  pub built : IsBuilt journal c
