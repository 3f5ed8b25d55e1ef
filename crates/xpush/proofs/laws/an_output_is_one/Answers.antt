use Rattle.xpush.proofs.OneOutput.{out-one}
use Rattle.xpush.proofs.laws.an_output_is_one.Goals as goal

pub returns : goal.returns
returns c = out-one
