-- What the tables of Value states keep.
use Rattle.std.specs.Prelude.{◌≡◌, ℕ, Bool, true, false, List, map, Some, unwrap_or, slice_get}
use Rattle.px_xpath.specs.declared.filter.Relation.{Relation}
use Rattle.px_xpath.specs.declared.filter.Relation.TheVariants as relation
use Rattle.px_xpath.specs.declared.filter.Value.{Value}
use Rattle.px_xpath.specs.declared.filter.Value.TheVariants.{Number, Literal}
use Rattle.px_afa.specs.declared.state.State.{State}
use Rattle.px_afa.specs.declared.state.State.TheVariants as state
use Rattle.px_afa.specs.declared.value_tables.ValueTables.{ValueTables}
use Rattle.px_afa.specs.declared.value_tables.Relations.{Relations}
use Rattle.px_afa.specs.Truth.{state_at}
use Rattle.px_afa.specs.Building.{newest}
use Rattle.px_afa.specs.Classes.{literals_of, constants_of, text_class, constant_class}
use Rattle.px_afa.specs.Lists.{row}
use Rattle.px_afa.specs.Tables.{own_class, equal_texts, unequal_texts, AreRelated}
use Rattle.px_afa.specs.Kept.{AreLiterals}

abbrev pub value_class : List State → Value → ℕ
value_class states (Literal text) = text_class states text
value_class states (Number units) = constant_class states units

abbrev pub value_state : Relation → Value → State
value_state r wanted = state.Value r wanted

abbrev pub is_number : Value → Bool
is_number (Number units) = true
is_number (Literal text) = false

-- the class of each state's own value, in order of the numbers
abbrev pub own_classes_of : List State → List ℕ
own_classes_of states = map (λ s. own_class (newest states) (Some s)) states

pub record AreRelations (related : Relations) (states : List State) : Type 0 where
  pub equal : AreRelated states relation.Equal related.equal.items
  pub not_equal : AreRelated states relation.NotEqual related.not_equal.items
  pub less : AreRelated states relation.Less related.less.items
  pub at_most : AreRelated states relation.AtMost related.at_most.items
  pub greater : AreRelated states relation.Greater related.greater.items
  pub at_least : AreRelated states relation.AtLeast related.at_least.items

pub record AreValueTables (tables : ValueTables) (states : List State) : Type 0 where
  pub literals : AreLiterals tables.literals (literals_of states)
  pub constants : tables.constants.items ≡ constants_of states
  pub classes : (n : ℕ) → unwrap_or (slice_get tables.classes.items n) 0 ≡ own_class states (state_at states n)
  pub equal_texts : (class : ℕ) → row tables.equal_texts class ≡ equal_texts states class
  pub unequal_texts : tables.unequal_texts.items ≡ unequal_texts states
  pub related : AreRelations tables.related states
