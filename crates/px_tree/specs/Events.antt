-- The attributes with which events begin, and what is behind them.
use Rattle.std.specs.Prelude.{List, [], ◌∷◌}
use Rattle.px_text.specs.declared.attribute.Attribute.{Attribute}
use Rattle.px_reader.specs.declared.event.Event.{Event}
use Rattle.px_reader.specs.declared.event.Event.TheVariants.{Attr}

abbrev pub attributes_of : List Event → List Attribute
attributes_of (Attr name value ∷ events) = record { name = name; value = value } ∷ attributes_of events
attributes_of _ = []

abbrev pub behind_attributes : List Event → List Event
behind_attributes (Attr name value ∷ events) = behind_attributes events
behind_attributes events = events
