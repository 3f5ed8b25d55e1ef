-- The id that the line names is told.
use Rattle.px_serial.proofs.Noting.{note_none, note_one}
use Rattle.px_serial.proofs.filtering.note.Goals as goal

pub returns-in-Some : goal.returns-in-Some
returns-in-Some c = record { stand = note_one c.change.result c.args.tiers.now c.change.new.self c.args.line.now c.in-Some.id c.in-Some.ensures.id c.change.ensures.changed }

pub returns-in-None : goal.returns-in-None
returns-in-None c = record { stand = note_none c.args.tiers.now c.args.line.now c.in-None.ensures.id }
