use Rattle.px_text.specs.Names.{is_digit}
use Rattle.px_xpath.proofs.Fronts.{counted_passes}
use Rattle.px_xpath.proofs.tokenizer.digits.Goals as goal

pub returns-clause-digits : goal.returns-clause-digits
returns-clause-digits c = counted_passes is_digit c.args.text.now c.digit_count-count.result c.digit_count-count.ensures
