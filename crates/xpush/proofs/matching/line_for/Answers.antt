-- The line of a filter's text.
use Rattle.px_xpath.specs.Whole.{filter}
use Rattle.xpush.proofs.Lines.{parsed_lines, refused_line, refused_by_source}
use Rattle.xpush.proofs.Sizes.{text_small}
use Rattle.xpush.proofs.matching.line_for.Goals as goal

pub returns-in-Ok-clause-line : goal.returns-in-Ok-clause-line
returns-in-Ok-clause-line g c = parsed_lines _ _ _ _ c.line_under.result c.in-Ok.ensures c.line_under.ensures.line

pub returns-in-Err-clause-line : goal.returns-in-Err-clause-line
returns-in-Err-clause-line g c = refused_line _ _ c.in-Err.fault c.refusal.result c.in-Err.ensures c.refusal.ensures

pub returns-in-Err-clause-failed : goal.returns-in-Err-clause-failed
returns-in-Err-clause-failed g c = λ e. absurd (refused_by_source c.in-Err.fault c.refusal.result c.refusal.ensures e)

pub line_under-requires : goal.line_under-requires
line_under-requires g c = record { small = text_small _ _ c.in-Ok.ensures }

pub returns-in-Ok-clause-not_at_fault : goal.returns-in-Ok-clause-not_at_fault
returns-in-Ok-clause-not_at_fault g c = λ e. record { way = filter c.in-Ok.filter; parses = c.in-Ok.ensures; read = c.line_under.ensures.not_at_fault e }

pub returns-in-Err-clause-not_at_fault : goal.returns-in-Err-clause-not_at_fault
returns-in-Err-clause-not_at_fault g c = λ e. absurd (refused_by_source c.in-Err.fault c.refusal.result c.refusal.ensures e)
