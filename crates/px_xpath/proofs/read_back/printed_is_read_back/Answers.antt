use Rattle.px_xpath.proofs.ReadBack.{read_back}
use Rattle.px_xpath.proofs.read_back.printed_is_read_back.Goals as goal

pub returns : goal.returns
returns c = read_back
