use Rattle.std.proofs.Common.{◌≡◌, false, ◌==◌, take}
use Rattle.std.specs.List.{list_any}
use Rattle.px_xpath.proofs.printer.quote_of.Given as goal

abbrev pub invariant-loop-byte : goal.invariant-loop-byte
invariant-loop-byte l = list_any (λ b. b == 34) (take l.byte-index l.text) ≡ false
