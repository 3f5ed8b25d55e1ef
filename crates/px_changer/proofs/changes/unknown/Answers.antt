-- The text writes a filter, or has a fault.
use Rattle.px_xpath.specs.Whole.{filter as way_of}
use Rattle.px_changer.proofs.PutIn.{unknown_replied, fault_replied}
use Rattle.px_changer.proofs.changes.unknown.Goals as goal

pub returns-in-Ok : goal.returns-in-Ok
returns-in-Ok c = λ changes. unknown_replied c.args.text.now (way_of c.in-Ok.filter) changes c.without_id.result c.in-Ok.ensures c.without_id.ensures

pub returns-in-Err : goal.returns-in-Err
returns-in-Err c = λ changes. fault_replied c.args.text.now c.in-Err.fault changes c.line_of_fault.result c.in-Err.ensures c.line_of_fault.ensures
