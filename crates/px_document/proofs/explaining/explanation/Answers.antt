-- The filter's text is judged first.
use Rattle.px_xpath.specs.Whole.{filter}
use Rattle.px_xpath.proofs.OneFault.{faultless}
use Rattle.px_document.specs.Outputs.{ExplainsDocument}
use Rattle.px_document.proofs.Found.{parsed_findings, refused_finding, refused_by_source}
use Rattle.px_document.proofs.explaining.explanation.Goals as goal

pub returns-in-Ok-clause-found : goal.returns-in-Ok-clause-found
returns-in-Ok-clause-found g c = parsed_findings ExplainsDocument _ _ _ _ c.explained.result c.in-Ok.ensures c.explained.ensures.found

pub returns-in-Err-clause-found : goal.returns-in-Err-clause-found
returns-in-Err-clause-found g c = refused_finding ExplainsDocument _ _ c.in-Err.fault c.no_filter.result c.in-Err.ensures c.no_filter.ensures

pub returns-in-Err-clause-failed : goal.returns-in-Err-clause-failed
returns-in-Err-clause-failed g c = λ e. absurd (refused_by_source c.in-Err.fault c.no_filter.result c.no_filter.ensures e)

pub returns-in-Ok-clause-not_at_fault : goal.returns-in-Ok-clause-not_at_fault
returns-in-Ok-clause-not_at_fault g c = λ e. record { way = filter c.in-Ok.filter; parses = c.in-Ok.ensures; read = c.explained.ensures.not_at_fault e }

pub returns-in-Err-clause-not_at_fault : goal.returns-in-Err-clause-not_at_fault
returns-in-Err-clause-not_at_fault g c = λ e. absurd (refused_by_source c.in-Err.fault c.no_filter.result c.no_filter.ensures e)

pub returns-in-Ok-clause-unread : goal.returns-in-Ok-clause-unread
returns-in-Ok-clause-unread g c = λ fault h. absurd (faultless c.args.text.now (filter c.in-Ok.filter) fault c.in-Ok.ensures h)
