use Rattle.px_feed.proofs.Total.{out-some}
use Rattle.px_feed.proofs.laws.every_feed_has_an_output.Goals as goal

pub returns : goal.returns
returns c = out-some
