use Rattle.std.proofs.Common.{◌≡◌, take}
use Rattle.px_afa.proofs.filters.words.Given as goal

abbrev pub invariant-loop-part : goal.invariant-loop-part
invariant-loop-part l = l.items.items ≡ take l.part-index l.parts
