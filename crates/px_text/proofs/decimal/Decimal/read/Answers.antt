use Rattle.std.proofs.Common.{[], ap, ◌∙◌}
use Rattle.px_text.specs.Readings.{reading_of}
use Rattle.px_text.proofs.Numbers.{spells_numeral, no_numeral}
use Rattle.px_text.proofs.decimal.Decimal.read.Goals as goal

pub returns-clause-value : goal.returns-clause-value
returns-clause-value c = c.reading.ensures c.args.text.now (c.take.ensures [] c.start-scan.ensures)

pub returns-clause-number : goal.returns-clause-number
returns-clause-number c = λ n s. c.reading.ensures c.args.text.now (c.take.ensures [] c.start-scan.ensures) ∙ ap reading_of (spells_numeral c.args.text.now n s)

pub returns-clause-no_number : goal.returns-clause-no_number
returns-clause-no_number c = λ none. c.reading.ensures c.args.text.now (c.take.ensures [] c.start-scan.ensures) ∙ ap reading_of (no_numeral c.args.text.now none)
