use Rattle.px_feed.proofs.OneOutput.{feeds-one, matches-one, shows-one}
use Rattle.px_feed.proofs.laws.an_output_is_one.Goals as goal

pub returns-clause-feed : goal.returns-clause-feed
returns-clause-feed c = feeds-one

pub returns-clause-matched : goal.returns-clause-matched
returns-clause-matched c = matches-one

pub returns-clause-shown : goal.returns-clause-shown
returns-clause-shown c = shows-one
