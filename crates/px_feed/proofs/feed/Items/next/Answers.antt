-- What is taken in is what the contract sees.
use Rattle.std.proofs.Common.{sym, subst}
use Rattle.px_feed.specs.Progress.{Progress}
use Rattle.px_feed.specs.Taking.{HasEnded}
use Rattle.px_feed.proofs.feed.Items.next.Goals as goal

pub returns-clause-stays : goal.returns-clause-stays
returns-clause-stays g c = λ ending ended.
    c.next.ensures.stays ending (let P : Progress → Type 0 = λ progress. HasEnded progress ending in subst P (sym c.self.view_is) ended)
