-- `-text` with its line feed.
use Rattle.std.proofs.Common.{◌≡◌, ◌++◌, ◌∷◌, [], ◌+◌, ◌<◌, ◌≤◌, take, length, refl, ap, sym, ◌∙◌, subst, Ok, arith, IsUtf8}
use Rattle.std.proofs.lemmas.List.{length-take-le}
use Rattle.px_reader.specs.Lines.{is_ended}
use Rattle.px_reader.specs.Scanned.{run_of, line_to}
use Rattle.px_reader.specs.Scanning.{standing, state_in}
use Rattle.px_reader.specs.States.{Judging, open_text}
use Rattle.px_reader.proofs.Scans.{line_is, line_within}
use Rattle.px_reader.proofs.TextScans.{feedless_ends, said_in, text_judged}
use Rattle.px_reader.proofs.scanner.Scanner.quick_text.Goals as goal

pub returns-clause-ok : goal.returns-clause-ok
returns-clause-ok c =
    let piece = c.args.piece.now in
    let old = c.args.self.now in
    let new = c.say.new.self in
    let rest = c.behind-rest.result.now in
    let count = c.in-Some.length in
    let plain = c.in-Some.ensures in
    let at = c.args.at in
    let end = at + count + 2 in
    let said = take count rest in
    let line : line_to piece at end ≡ 45 ∷ (said ++ 10 ∷ []) = line_is piece rest at count 45 c.behind-rest.ensures c.requires.first.0 c.requires.first.1 plain.within plain.feed in
    let within : end ≤ length piece = line_within piece rest at count c.behind-rest.ensures plain.within in
    let low = plain.within in
    let size : length said ≡ count = length-take-le count rest (omega arith) in
    let (names, phase, run) = c.in_ok-say.ensures.ok in
    let grown : run_of piece new ≡ open_text old.phase (run_of piece old) ++ said = run ∙ ap (λ bs. open_text old.phase (run_of piece old) ++ bs) (said_in piece rest at count c.behind-rest.ensures) in
    let short : length said < 1_048_576 = omega arith in
    let judged = λ (u : IsUtf8 (line_to piece at end)).
    subst (λ ph. Judging (state_in piece old) (line_to piece at end) (Ok tt) (standing ph new.attributes (run_of piece new) new.names) [] []) (sym phase)
    (text_judged old.phase old.attributes new.attributes (run_of piece old) said (run_of piece new) old.names new.names (line_to piece at end)
    (sym c.is_empty.ensures ∙ c.if-is_empty.false) names grown line plain.no_escape plain.no_return short u) in
    (omega arith, within, ap is_ended line ∙ feedless_ends 45 said refl plain.no_feed, c.in_ok-say.ensures.run, judged)
