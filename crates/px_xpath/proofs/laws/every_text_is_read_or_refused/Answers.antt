use Rattle.px_xpath.proofs.Total.{read-or-refused}
use Rattle.px_xpath.proofs.laws.every_text_is_read_or_refused.Goals as goal

pub returns : goal.returns
returns c = read-or-refused
