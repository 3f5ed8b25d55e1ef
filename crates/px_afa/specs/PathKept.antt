-- What the tables of Path states keep.
use Rattle.std.specs.Prelude.{◌≡◌, ℕ, ◌&&◌, List, Option, Some, None, slice_get}
use Rattle.px_xpath.specs.declared.filter.Test.{Test}
use Rattle.px_xpath.specs.declared.filter.Test.TheVariants as test
use Rattle.px_afa.specs.declared.state.State.{State}
use Rattle.px_afa.specs.declared.state.State.TheVariants as state
use Rattle.px_afa.specs.declared.path_tables.Met.{Met}
use Rattle.px_afa.specs.declared.path_tables.Met.TheVariants as met
use Rattle.px_afa.specs.declared.path_tables.PathTables.{PathTables}
use Rattle.px_afa.specs.Contents.{Kind, ElementKind, AttributeKind}
use Rattle.px_afa.specs.Truth.{state_at}
use Rattle.px_afa.specs.Labels.{names_of, label_number}
use Rattle.px_afa.specs.Lists.{row}
use Rattle.px_afa.specs.Tables.{states_where, is_unguarded, tests_any_element, tests_any_attribute, guarded_by, unguarded_exactly}
use Rattle.px_afa.specs.Kept.{AreNames}

-- the labels that meet a test
abbrev pub met_by : List Kind → Test → Met
met_by kinds (test.Element name) = met.Label (label_number kinds (ElementKind name))
met_by kinds test.AnyElement = met.AnyElement
met_by kinds (test.Attribute name) = met.Label (label_number kinds (AttributeKind name))
met_by kinds test.AnyAttribute = met.AnyAttribute
met_by kinds test.Text = met.Label 0

abbrev pub met_of : List Kind → Option State → Met
met_of kinds (Some (state.Path axis t b)) = met_by kinds t
met_of kinds _ = met.Nothing

abbrev pub known : Option Met → Met
known None = met.Nothing
known (Some m) = m

abbrev pub met_at : List Met → ℕ → Met
met_at tests n = known (slice_get tests n)

pub record ArePathTables (tables : PathTables) (states : List State) : Type 0 where
  pub names : AreNames tables.names (names_of states)
  pub tests : (n : ℕ) → met_at tables.tests.items n ≡ met_of (names_of states) (state_at states n)
  pub guarded : (guard : ℕ) → row tables.guarded guard ≡ guarded_by states guard
  pub exactly : (label : ℕ) → row tables.exactly label ≡ unguarded_exactly states label
  pub any_elements : tables.any_elements.items ≡ states_where states (λ s. is_unguarded states s && tests_any_element s)
  pub any_attributes : tables.any_attributes.items ≡ states_where states (λ s. is_unguarded states s && tests_any_attribute s)
