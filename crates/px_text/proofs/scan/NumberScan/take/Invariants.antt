use Rattle.std.proofs.Common.{ℕ, List, ◌++◌, take}
use Rattle.px_text.specs.Scans.{HasTaken}
use Rattle.px_text.proofs.scan.NumberScan.take.Given as goal

abbrev pub invariant-loop-byte : goal.invariant-loop-byte
invariant-loop-byte l = (text : List ℕ) → HasTaken l.fn.self text → HasTaken l.self (text ++ take l.byte-index l.piece)
