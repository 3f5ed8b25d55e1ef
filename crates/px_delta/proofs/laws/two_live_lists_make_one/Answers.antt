use Rattle.px_delta.proofs.TwoLists.{front_is}
use Rattle.px_delta.proofs.laws.two_live_lists_make_one.Goals as goal

pub returns : goal.returns
returns c = λ same test base front tells r s. front_is same tells test base front r s
