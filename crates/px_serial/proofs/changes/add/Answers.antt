use Rattle.px_xpath.specs.Whole.{filter as way_of}
use Rattle.px_serial.proofs.changes.add.Goals as goal
use Rattle.px_serial.proofs.Changing.{answers_add, refuses_add}

pub returns-in-Ok : goal.returns-in-Ok
returns-in-Ok c =
    answers_add c.args.text.now (way_of c.in-Ok.filter) c.args.journal.now.changes c.add_filter.new.journal.changes c.add_filter.result c.in-Ok.ensures c.add_filter.ensures

pub returns-in-Err : goal.returns-in-Err
returns-in-Err c = refuses_add c.args.text.now c.in-Err.fault c.args.journal.now.changes c.no_filter.result c.in-Err.ensures c.no_filter.ensures
