use Rattle.px_explain.proofs.OneOpening.{opens_once}
use Rattle.px_explain.proofs.laws.an_input_opens_one_way.Goals as goal

pub returns : goal.returns
returns c = opens_once
