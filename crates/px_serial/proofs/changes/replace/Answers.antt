use Rattle.px_xpath.specs.Whole.{filter as way_of}
use Rattle.px_serial.proofs.changes.replace.Goals as goal
use Rattle.px_serial.proofs.Changing.{answers_replace, refuses_replace}

pub returns-in-Ok : goal.returns-in-Ok
returns-in-Ok c =
    answers_replace c.args.name.now c.args.text.now c.id_of.result (way_of c.in-Ok.filter) c.args.journal.now.changes c.replace_by.new.journal.changes c.replace_by.result
    c.id_of.ensures.id c.in-Ok.ensures c.replace_by.ensures

pub returns-in-Err : goal.returns-in-Err
returns-in-Err c =
    refuses_replace c.args.name.now c.args.text.now c.in-Err.fault c.args.journal.now.changes c.no_filter.result c.in-Err.ensures c.no_filter.ensures
