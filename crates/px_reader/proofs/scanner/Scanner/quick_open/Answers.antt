-- `(name` with its line feed.
use Rattle.std.proofs.Common.{◌≡◌, ◌++◌, ◌∷◌, [], ◌+◌, ◌<◌, ◌≤◌, true, false, take, length, refl, ap, sym, ◌∙◌, subst, arith, IsUtf8, if◌then◌else◌}
use Rattle.std.proofs.lemmas.List.{length-take-le}
use Rattle.px_text.specs.Names.{is_pyx_name}
use Rattle.px_reader.specs.declared.event.Event.TheVariants.{Start, Text}
use Rattle.px_reader.specs.declared.phase.Phase.TheVariants as phases
use Rattle.px_reader.specs.Lines.{is_ended}
use Rattle.px_reader.specs.Scanned.{bytes_at, IsWithin, run_of, line_to}
use Rattle.px_reader.specs.Scanning.{standing, state_in, told_events}
use Rattle.px_reader.specs.Stacks.{first_of}
use Rattle.px_reader.specs.declared.scanner.Own.TheVariants as Own
use Rattle.px_reader.specs.declared.scanner.Told.{Told}
use Rattle.px_reader.specs.States.{is_after}
use Rattle.px_reader.proofs.Scans.{line_is, line_within, name_is, name_ends, open_judged, judged_as}
use Rattle.px_reader.proofs.scanner.Scanner.quick_open.Goals as goal

pub returns : goal.returns
returns c =
    let piece = c.args.piece.now in
    let old = c.args.self.now in
    let new = c.end_run-text.new.self in
    let rest = c.behind-rest.result.now in
    let count = c.name_length-length.result in
    let name = take count rest in
    let at = c.args.at in
    let end = at + count + 2 in
    let text = bytes_at piece old.text.items old.run in
    let feed = c.has_feed.ensures c.if-not-has_feed.false in
    let begins = c.begins_with_name.ensures c.if-not-begins_with_name.false in
    let line : line_to piece at end ≡ 40 ∷ (name ++ 10 ∷ []) = line_is piece rest at count 40 c.behind-rest.ensures c.requires.first.0 c.requires.first.1 feed.0 feed.1 in
    let within : end ≤ length piece = line_within piece rest at count c.behind-rest.ensures feed.0 in
    let continues = c.name_length-length.ensures.name in
    let is_name : is_pyx_name name ≡ true = name_is rest count begins.0 c.name_length-length.ensures.within begins.2 continues in
    let size : length name ≡ count = length-take-le count rest c.name_length-length.ensures.within in
    let names : new.names ≡ name ∷ old.names = c.end_run-text.ensures.names ∙ c.in_ok-push.ensures.ok in
    let (ran, phase, run, placed, kept, same, says) = c.end_run-text.ensures.ends in
    let more : is_after (state_in piece old) ≡ false = sym (c.is_behind_root.ensures piece) ∙ c.if-is_behind_root.false in
    let room : length old.names < 512 = omega arith in
    let after = run_of piece new in
    let judged = λ (u : IsUtf8 (line_to piece at end)).
    open_judged old.phase old.attributes old.is_run text old.names name (line_to piece at end) after c.end_run-text.result is_name line (omega arith) more room (says piece c.requires.within) u in
    let state : standing phases.Giving c.clear.new.self after new.names ≡ standing phases.Giving [] after (name ∷ old.names) =
    ap (λ a. standing phases.Giving a after new.names) c.clear.ensures ∙ ap (λ ns. standing phases.Giving [] after ns) names in
    let value = bytes_at piece new.unescaped.items new.value in
    let told : Told = record { text = c.end_run-text.result; own = Own.Start } in
    let brought : told_events told (bytes_at piece new.text.items new.run) (first_of new.names) (first_of c.clear.new.self) value ≡ (if c.end_run-text.result then Text text ∷ [] else []) ++ Start name ∷ [] =
    rw (kept, run, names) refl in
    record {
      places = (run, placed);
      ok = (
        omega arith,
        within,
        ap is_ended line ∙ name_ends name 40 continues refl,
        subst (IsWithin piece) (sym run) c.requires.within,
        λ u. judged_as (state_in piece old) (standing phases.Giving [] after (name ∷ old.names)) (standing phases.Giving c.clear.new.self after new.names) (line_to piece at end)
            ((if c.end_run-text.result then Text text ∷ [] else []) ++ Start name ∷ []) (told_events told (bytes_at piece new.text.items new.run) (first_of new.names) (first_of c.clear.new.self) value) state brought (judged u),
      );
    }
