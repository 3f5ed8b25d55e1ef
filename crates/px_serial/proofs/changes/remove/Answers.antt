use Rattle.std.proofs.Common.{Some, None, refl}
use Rattle.px_feed.specs.Outputs.{AsksDrop}
use Rattle.px_serial.proofs.changes.remove.Goals as goal
use Rattle.px_serial.proofs.Changing.{answers_drop}

pub returns-in-Some : goal.returns-in-Some
returns-in-Some c =
    answers_drop c.args.text.now (Some c.in-Some.id) c.args.journal.now.changes c.remove_named.new.journal.changes c.remove_named.result c.in-Some.ensures.id c.remove_named.ensures

pub returns-in-None : goal.returns-in-None
returns-in-None c = (AsksDrop None, c.in-None.ensures.id, refl)
