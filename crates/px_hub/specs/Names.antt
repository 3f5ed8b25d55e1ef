-- The name of no hub, and which sizes a hub may have.
use Rattle.std.specs.Prelude.{◌≤◌, []}
use Rattle.px_rule.specs.declared.shape.Shape.{Shape}
use Rattle.px_rule.specs.Words.{IsShape}
use Rattle.px_rule.specs.Table.{TableName, no_shape}
use Rattle.px_hub.specs.declared.config.Config.{Config}

abbrev pub no_table : TableName
no_table = record { id = record { words = 0; slots = 0; views_name = 0; atom = 0; block = 0; offset = 0; slot_names = [] }; shape = no_shape }

abbrev pub shape_of : Config → Shape
shape_of c = record { banks = c.banks; node_bits = c.node_bits; step_bits = c.step_bits }

-- at most 65 passes, and a shape of a table
abbrev pub IsValid : Config → Type 0
IsValid c = (c.passes ≤ 65) × IsShape (shape_of c)
