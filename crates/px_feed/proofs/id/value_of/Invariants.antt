use Rattle.std.proofs.Common.{◌≡◌, ◌<◌, ◌^◌, take}
use Rattle.px_text.specs.Numbers.{value}
use Rattle.px_feed.proofs.id.value_of.Given as goal

abbrev pub invariant-loop-digit : goal.invariant-loop-digit
invariant-loop-digit l = (l.value ≡ value (take l.digit-index l.digits)) × (l.value < 10 ^ l.digit-index)
