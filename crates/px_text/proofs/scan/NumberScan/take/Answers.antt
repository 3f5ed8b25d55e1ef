use Rattle.std.proofs.Common.{◌++◌, take, drop, append_assoc, ap, ◌∙◌}
use Rattle.std.proofs.lemmas.List.{take-append-drop}
use Rattle.px_text.proofs.Scanning.{stays_nothing}
use Rattle.px_text.proofs.scan.NumberScan.take.Goals as goal

pub returns-in-NotANumber : goal.returns-in-NotANumber
returns-in-NotANumber c = λ text h.
    let piece = c.args.piece.now in
    let i = c.loop-byte.byte-index in
    stays_nothing c.loop-byte.self (text ++ take i piece) (drop i piece) (text ++ piece) (c.loop-byte.invariant text h) c.in-NotANumber.is
    (append_assoc text (take i piece) (drop i piece) ∙ ap (λ t. text ++ t) (take-append-drop i piece))
