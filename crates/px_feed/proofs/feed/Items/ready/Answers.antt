-- What is taken in is what the contract sees.
use Rattle.std.proofs.Common.{sym, subst}
use Rattle.px_feed.specs.Progress.{Progress}
use Rattle.px_feed.specs.Taking.{HasTaken}
use Rattle.px_feed.proofs.feed.Items.ready.Goals as goal

pub returns-clause-whole : goal.returns-clause-whole
returns-clause-whole c = λ none left bytes given taken.
    c.ready.ensures.whole none left bytes given (let P : Progress → Type 0 = λ progress. HasTaken progress left bytes given in subst P (sym c.self.view_is) taken)
