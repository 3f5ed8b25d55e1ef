-- `Aname value` with its line feed.
use Rattle.std.proofs.Common.{◌≡◌, ◌++◌, ◌∷◌, [], ◌+◌, ◌-◌, ◌<◌, ◌≤◌, true, take, drop, length, length-drop, get_or, refl, ap, sym, ◌∙◌, subst, Ok, arith, IsUtf8}
use Rattle.std.proofs.lemmas.List.{length-take-le}
use Rattle.px_text.specs.Names.{is_pyx_name}
use Rattle.px_reader.specs.declared.phase.Phase.TheVariants as phases
use Rattle.px_reader.specs.Lines.{is_ended}
use Rattle.px_reader.specs.declared.event.Event.TheVariants.{Attr}
use Rattle.px_reader.specs.Stacks.{first_of}
use Rattle.px_reader.specs.Scanned.{run_of, line_to}
use Rattle.px_reader.specs.Scanning.{standing}
use Rattle.px_reader.specs.States.{Judging}
use Rattle.px_reader.proofs.Scans.{line_is, line_within, name_is, judged_as}
use Rattle.px_reader.proofs.AttributeScans.{parts_are, get_behind, behind_behind, attribute_ends, attribute_judged}
use Rattle.px_reader.proofs.scanner.Scanner.quick_attribute.Goals as goal

pub returns-clause-ok : goal.returns-clause-ok
returns-clause-ok c =
    let piece = c.args.piece.now in
    let old = c.args.self.now in
    let attributes = c.push.new.self in
    let rest = c.behind-rest.result.now in
    let behind = c.behind.result.now in
    let wide = c.name_length-length.result in
    let count = c.in-Some.count in
    let plain = c.in-Some.ensures in
    let at = c.args.at in
    let end = at + wide + count + 3 in
    let start = at + wide + 2 in
    let name = take wide rest in
    let value = take count behind in
    let run = run_of piece old in
    let space = c.has_space.ensures c.if-not-has_space.false in
    let begins = c.begins_with_name.ensures c.if-not-begins_with_name.false in
    let may = c.may_give.ensures c.if-not-may_give.false in
    let long : wide + 1 + count < length rest = let n = ap length c.behind.ensures ∙ length-drop (wide + 1) rest in let w = plain.within in omega arith in
    let feed : get_or rest (wide + 1 + count) 0 ≡ 10 = sym (get_behind rest wide count) ∙ ap (λ bs. get_or bs count 0) (sym c.behind.ensures) ∙ plain.feed in
    let content : take (wide + 1 + count) rest ≡ name ++ 32 ∷ value = parts_are rest wide count space.0 space.1 ∙ ap (λ bs. name ++ 32 ∷ take count bs) (sym c.behind.ensures) in
    let same : end ≡ at + (wide + 1 + count) + 2 = omega arith in
    let line : line_to piece at end ≡ 65 ∷ ((name ++ 32 ∷ value) ++ 10 ∷ []) =
    ap (line_to piece at) same ∙ line_is piece rest at (wide + 1 + count) 65 c.behind-rest.ensures c.requires.first.0 c.requires.first.1 long feed ∙ ap (λ bs. 65 ∷ (bs ++ 10 ∷ [])) content in
    let within : end ≤ length piece = let w = line_within piece rest at (wide + 1 + count) c.behind-rest.ensures long in omega arith in
    let continues = c.name_length-length.ensures.name in
    let is_name : is_pyx_name name ≡ true = name_is rest wide begins.0 c.name_length-length.ensures.within begins.2 continues in
    let size : length name ≡ wide = length-take-le wide rest c.name_length-length.ensures.within in
    let low = plain.within in
    let room : length value ≡ count = length-take-le count behind (omega arith) in
    let short : length name + length value + 2 ≤ 1_048_576 = omega arith in
    let n : start + count - start ≡ count = omega arith in
    let shown : take (start + count - start) (drop start piece) ≡ value = ap (λ k. take k (drop start piece)) n ∙ ap (take count) (sym (behind_behind piece rest at wide c.behind-rest.ensures) ∙ sym c.behind.ensures) in
    let brought : Attr (first_of attributes) (take (start + count - start) (drop start piece)) ∷ [] ≡ Attr name value ∷ [] =
    ap (λ ns. Attr (first_of ns) (take (start + count - start) (drop start piece)) ∷ []) c.in_ok-push.ensures.ok ∙ ap (λ v. Attr name v ∷ []) shown in
    let judged = λ (u : IsUtf8 (line_to piece at end)).
    subst (λ ph. Judging (standing ph old.attributes run old.names) (line_to piece at end) (Ok tt) (standing ph attributes run old.names) [] (Attr (first_of attributes) (take (start + count - start) (drop start piece)) ∷ [])) (sym may.0)
    (judged_as (standing phases.Giving old.attributes run old.names) (standing phases.Giving attributes run old.names) (standing phases.Giving attributes run old.names) (line_to piece at end)
    (Attr name value ∷ []) (Attr (first_of attributes) (take (start + count - start) (drop start piece)) ∷ []) refl brought
    (attribute_judged old.attributes attributes run run name value old.names (line_to piece at end) may.1 may.2 may.3 c.in_ok-push.ensures.ok is_name plain.no_escape plain.no_return line short u)) in
    (omega arith, within, ap is_ended line ∙ attribute_ends name value continues plain.no_feed, c.requires.within, judged)
