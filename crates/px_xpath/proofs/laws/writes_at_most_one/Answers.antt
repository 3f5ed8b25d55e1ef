use Rattle.px_xpath.proofs.Values.{writes_one}
use Rattle.px_xpath.proofs.laws.writes_at_most_one.Goals as goal

pub returns : goal.returns
returns c = writes_one
