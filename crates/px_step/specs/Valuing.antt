-- How a number class compares with constants.
use Rattle.std.specs.Prelude.{ℕ, zero, suc, Bool, true, false}
use Rattle.std.specs.declared.cmp.Ordering.{Ordering}
use Rattle.px_xpath.specs.declared.filter.Relation.{Relation}
use Rattle.px_xpath.specs.declared.filter.Relation.TheVariants as relation
use Rattle.px_xpath.specs.Meaning.{allows}

-- Texts of the class compare true with the constants that it has this order to. Class 0, of what is no number, has none.
abbrev pub is_told : Relation → (class : ℕ) → Ordering → Bool
is_told relation.NotEqual zero order = true
is_told _ zero order = false
is_told r (suc class) order = allows r order
