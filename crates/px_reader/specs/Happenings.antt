-- What a borrowed event is.
use Rattle.px_reader.specs.declared.event.Event.{Event}
use Rattle.px_reader.specs.declared.event.Event.TheVariants as owned
use Rattle.px_reader.specs.declared.happening.Happening.{Happening}
use Rattle.px_reader.specs.declared.happening.Happening.TheVariants.{Start, Attr, Text, End}

-- the event whose bytes are borrowed
abbrev pub event_of : Happening → Event
event_of (Start name) = owned.Start name.now
event_of (Attr name value) = owned.Attr name.now value.now
event_of (Text text) = owned.Text text.now
event_of End = owned.End
