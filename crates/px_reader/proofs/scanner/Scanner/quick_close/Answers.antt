-- `)name` with its line feed.
use Rattle.std.proofs.Common.{◌≡◌, ◌++◌, ◌∷◌, [], ◌+◌, ◌<◌, ◌≤◌, true, length, refl, ap, sym, ◌∙◌, subst, Ok, arith, IsUtf8, if◌then◌else◌}
use Rattle.px_text.specs.Names.{is_pyx_name}
use Rattle.px_reader.specs.declared.event.Event.TheVariants.{End, Text}
use Rattle.px_reader.specs.declared.phase.Phase.TheVariants as phases
use Rattle.px_reader.specs.Lines.{is_ended}
use Rattle.px_reader.specs.Scanned.{bytes_at, IsWithin, line_to}
use Rattle.px_reader.specs.Scanning.{standing, state_in, told_events}
use Rattle.px_reader.specs.Stacks.{first_of, behind_first}
use Rattle.px_reader.specs.declared.scanner.Own.TheVariants as Own
use Rattle.px_reader.specs.declared.scanner.Told.{Told}
use Rattle.px_reader.specs.States.{Judging}
use Rattle.px_reader.proofs.Scans.{line_is, line_within, name_ends, close_judged, judged_as, last_of, first_is_name}
use Rattle.px_reader.proofs.QuickLines.{name_bytes}
use Rattle.px_reader.proofs.scanner.Scanner.quick_close.Goals as goal

pub returns : goal.returns
returns c =
    let piece = c.args.piece.now in
    let old = c.args.self.now in
    let new = c.end_run-text.new.self in
    let rest = c.behind-rest.result.now in
    let name = c.last-name.result.now in
    let count = length name in
    let at = c.args.at in
    let end = at + count + 2 in
    let text = bytes_at piece old.text.items old.run in
    let feed = c.has_feed.ensures c.if-not-has_feed.false in
    let begins = c.begins_with.ensures c.if-not-begins_with.false in
    let outer = behind_first old.names in
    let last : old.names ≡ name ∷ outer = last_of old.names name (sym c.is_empty.ensures ∙ c.if-is_empty.false) c.last-name.ensures in
    let line : line_to piece at end ≡ 41 ∷ (name ++ 10 ∷ []) = line_is piece rest at count 41 c.behind-rest.ensures c.requires.first.0 c.requires.first.1 feed.0 feed.1 ∙ ap (λ n. 41 ∷ (n ++ 10 ∷ [])) begins.1 in
    let within : end ≤ length piece = line_within piece rest at count c.behind-rest.ensures feed.0 in
    let is_name : is_pyx_name name ≡ true = first_is_name old.names name outer last old.named in
    let names : new.names ≡ outer = c.end_run-text.ensures.names ∙ c.pop.ensures in
    let (ran, phase, run, placed, kept, same, says) = c.end_run-text.ensures.ends in
    let short : length name < 1_048_576 = omega arith in
    let open_run = if old.is_run then text else [] in
    let state : state_in piece new ≡ standing phases.Body old.attributes [] outer = rw (phase, same, ran, names) refl in
    let value = bytes_at piece new.unescaped.items new.value in
    let told : Told = record { text = c.end_run-text.result; own = Own.End } in
    let brought : told_events told (bytes_at piece new.text.items new.run) (first_of new.names) (first_of new.attributes) value ≡ (if c.end_run-text.result then Text text ∷ [] else []) ++ End ∷ [] =
    rw (kept, run) refl in
    let judged = λ (u : IsUtf8 (line_to piece at end)).
    subst (λ ns. Judging (standing old.phase old.attributes open_run ns) (line_to piece at end) (Ok tt) (state_in piece new) [] (told_events told (bytes_at piece new.text.items new.run) (first_of new.names) (first_of new.attributes) value)) (sym last)
    (judged_as (standing old.phase old.attributes open_run (name ∷ outer)) (standing phases.Body old.attributes [] outer) (state_in piece new) (line_to piece at end)
    ((if c.end_run-text.result then Text text ∷ [] else []) ++ End ∷ []) (told_events told (bytes_at piece new.text.items new.run) (first_of new.names) (first_of new.attributes) value) state brought
    (close_judged old.phase old.attributes old.is_run text outer name (line_to piece at end) c.end_run-text.result is_name line short (says piece c.requires.within) u)) in
    record { places = (run, placed); taken = (omega arith, within, ap is_ended line ∙ name_ends name 41 (name_bytes name is_name) refl, subst (IsWithin piece) (sym run) c.requires.within, judged) }
