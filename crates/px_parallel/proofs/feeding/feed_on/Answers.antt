-- Nothing was asked yet, and nobody hears.
use Rattle.px_parallel.proofs.Answered.{nothing_asked}
use Rattle.px_parallel.proofs.feeding.feed_on.Goals as goal

pub answer_feed-requires-clause-new : goal.answer_feed-requires-clause-new
answer_feed-requires-clause-new g c = λ lives within.
    (nothing_asked g.N.HubName.passes c.args.passes.now c.requires.every c.requires.several c.requires.unused, tt)
