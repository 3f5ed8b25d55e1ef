-- The subscriptions that numbered filters are.
use Rattle.std.specs.Prelude.{List, map}
use Rattle.px_xpath.specs.declared.numbered.Numbered.{Numbered}
use Rattle.px_xpath.specs.Histories.{Subscription}
use Rattle.px_xpath.specs.Whole.{filter}

abbrev pub subscription : Numbered → Subscription
subscription numbered = record { id = numbered.id; filter = filter numbered.filter }

abbrev pub subscriptions : List Numbered → List Subscription
subscriptions = map subscription
