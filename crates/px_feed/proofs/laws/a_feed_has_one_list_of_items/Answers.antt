use Rattle.px_feed.proofs.Unique.{gives-one}
use Rattle.px_feed.proofs.laws.a_feed_has_one_list_of_items.Goals as goal

pub returns-clause-items : goal.returns-clause-items
returns-clause-items c = λ bytes items others stop end g h. (gives-one g h).0

pub returns-clause-stop : goal.returns-clause-stop
returns-clause-stop c = λ bytes items others stop end g h. (gives-one g h).1
