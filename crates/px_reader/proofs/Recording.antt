-- Lines of a document that are judged behind one another, and their events.
use Rattle.std.proofs.Common.{◌≡◌, ℕ, zero, suc, ◌+◌, ◌-◌, ◌<◌, ◌≤◌, true, false, not, ◌==◌, List, [], ◌∷◌, ◌++◌, length, take, drop, refl, ap, sym, ◌∙◌, subst, Ok, Err, length-append, length-drop, arith, if◌then◌else◌}
use Rattle.std.specs.List.{sum_by}
use Rattle.std.proofs.lemmas.Bool.{and_parts}
use Rattle.std.proofs.lemmas.List.{take_all, drop_at, length_push}
use Rattle.px_text.specs.Nodes.{Root}
use Rattle.px_reader.specs.declared.event.Event.{Event}
use Rattle.px_reader.specs.declared.fault.DocKind.TheVariants.{TooBig, Truncated}
use Rattle.px_reader.specs.declared.fault.LineFault.{LineFault}
use Rattle.px_reader.specs.declared.fault.LineFault.TheVariants.{Kind, LineMemory}
use Rattle.px_reader.specs.declared.scanner.Place.{Place}
use Rattle.px_reader.specs.declared.scanner.Place.TheVariants.{Apart, Here}
use Rattle.px_reader.specs.declared.scanner.Scanner.{Scanner}
use Rattle.px_reader.specs.declared.scanner.Told.{Told}
use Rattle.px_reader.specs.Judged.{Judged}
use Rattle.px_reader.specs.Lines.{lines_of, is_whole, is_ended}
use Rattle.px_reader.specs.Machine.{State, Before, Attributes, Inside, After}
use Rattle.px_reader.specs.Recorded.{AreFine}
use Rattle.px_reader.specs.Records.{Records, Refuses, RefusesEnd}
use Rattle.px_reader.specs.Scanned.{IsWithin, bytes_at, line_to}
use Rattle.px_reader.specs.Scanning.{standing, state_in, brought_in, JudgesLine}
use Rattle.px_reader.specs.Spelling.{Spells, events_of}
use Rattle.px_reader.specs.States.{is_after, Bars, Judging}
use Rattle.px_reader.specs.Verdicts.{HasVerdict, Judges, IsTree, IsFaulty, AreTreeEvents}
use Rattle.px_reader.proofs.Judged.{judged_big, judged_truncated, judged_tree}
use Rattle.px_reader.proofs.LineCuts.{sizes, ended_is, lines_push, whole_push}
use Rattle.px_reader.proofs.Marking.{part_kept}
use Rattle.px_reader.proofs.Readings.{judged_gives}
use Rattle.px_reader.proofs.Taken.{line_taken, line_barred}
use Rattle.px_reader.proofs.Telling.{tree_one}
use Rattle.px_reader.proofs.Verdicts.{judges_one}

-- the bytes at a place, with more bytes behind
pub place_kept : (bytes more apart : List ℕ) (place : Place) → IsWithin bytes place → bytes_at (bytes ++ more) apart place ≡ bytes_at bytes apart place
place_kept bytes more apart Apart within = refl
place_kept bytes more apart (Here start end) within = part_kept bytes more start end within.0 within.1

pub state_kept : (bytes more : List ℕ) (scanner : Scanner) → IsWithin bytes scanner.run → state_in (bytes ++ more) scanner ≡ state_in bytes scanner
state_kept bytes more scanner within =
    ap (λ text. standing scanner.phase scanner.attributes (if scanner.is_run then text else []) scanner.names) (place_kept bytes more scanner.text.items scanner.run within)

-- the line behind the others
pub line_is_last : (bytes line piece : List ℕ) (at : ℕ) → piece ≡ bytes ++ line → at ≡ length bytes → line_to piece at (length piece) ≡ line
line_is_last bytes line piece at p a =
    let n = ap (λ (bs : List ℕ). length bs) p ∙ length-append bytes line in
    ap (λ bs. take (length piece - at) (drop at bs)) p ∙ ap (take (length piece - at)) (drop_at bytes line at (sym a)) ∙ take_all (length piece - at) line (omega arith)

small_with : (bytes line : List ℕ) → length bytes + length line ≤ 16_777_216 → sum_by length (lines_of bytes) + length line ≤ 16_777_216
small_with bytes line fits = let m = sizes bytes in omega arith

judged_still : (scanner : Scanner) (bytes line : List ℕ) (events : List Event) → Records scanner bytes events → Judged (lines_of bytes) (state_in (bytes ++ line) scanner) events
judged_still scanner bytes line events r = subst (λ state. Judged (lines_of bytes) state events) (sym (state_kept bytes line scanner r.run)) r.judged

-- one line more
pub records_more : (old new : Scanner) (bytes line : List ℕ) (events brought : List Event) → Records old bytes events → lines_of (bytes ++ line) ≡ lines_of bytes ++ line ∷ [] →
    length bytes + length line ≤ 16_777_216 → IsWithin (bytes ++ line) new.run → IsWithin (bytes ++ line) new.value →
    Judging (state_in (bytes ++ line) old) line (Ok tt) (state_in (bytes ++ line) new) [] brought → Records new (bytes ++ line) (events ++ brought)
records_more old new bytes line events brought r same fits run value (fit, (room, (found, s, b))) =
    let state = state_in (bytes ++ line) new in
    let j = line_taken (lines_of bytes) (state_in (bytes ++ line) old) events line state found (judged_still old bytes line events r) (small_with bytes line fits) fit room s in
    record {
      run = run;
      value = value;
      small = let n = length-append bytes line in omega arith;
      judged = subst (λ ls. Judged ls state (events ++ brought)) (sym same) (subst (λ evs. Judged (lines_of bytes ++ line ∷ []) state (events ++ evs)) (sym b) j);
    }

-- a line that is refused
pub refuses_barred : (scanner : Scanner) (bytes line : List ℕ) (events : List Event) (fault : LineFault) → Records scanner bytes events → length bytes + length line ≤ 16_777_216 →
    Bars (state_in (bytes ++ line) scanner) line fault → Refuses bytes line fault
refuses_barred scanner bytes line events LineMemory r fits bars = tt
refuses_barred scanner bytes line events (Kind kind) r fits bars = λ more.
    line_barred (lines_of bytes) (state_in (bytes ++ line) scanner) events line more kind (judged_still scanner bytes line events r) (small_with bytes line fits) bars

pub refuses_big : (scanner : Scanner) (bytes line : List ℕ) (events : List Event) → Records scanner bytes events → 16_777_216 < length bytes + length line → Refuses bytes line (Kind TooBig)
refuses_big scanner bytes line events r big = λ more.
    judged_big (lines_of bytes) (state_in bytes scanner) events line more r.judged (let m = sizes bytes in omega arith)

pub refuses_last : (bytes line : List ℕ) (fault : LineFault) → lines_of (bytes ++ line) ≡ lines_of bytes ++ line ∷ [] → Refuses bytes line fault → RefusesEnd bytes line fault
refuses_last bytes line LineMemory same refused = tt
refuses_last bytes line (Kind kind) same refused =
    let count : length (lines_of bytes) + 1 ≡ length (lines_of (bytes ++ line)) = sym (ap length same ∙ length_push (lines_of bytes) line) in
    subst (λ n. HasVerdict (bytes ++ line) (IsFaulty n kind)) count (subst (λ ls. Judges ls (IsFaulty (length (lines_of bytes) + 1) kind)) (sym same) (refused []))

-- the end of the lines
after_is : (state : State) → is_after state ≡ true → state ≡ After
after_is After a = refl
after_is Before a = absurd (cc)
after_is (Attributes names name outer) a = absurd (cc)
after_is (Inside text name outer) a = absurd (cc)

not_after : (state : State) → is_after state ≡ false → state ≡ After → ⊥
not_after state a e = let f : true ≡ false = ap is_after (sym e) ∙ a in absurd (cc)

pub closed_tree : (scanner : Scanner) (bytes : List ℕ) (events : List Event) → Records scanner bytes events → is_after (state_in bytes scanner) ≡ true → (root : Root) × HasVerdict bytes (IsTree root)
closed_tree scanner bytes events r a =
    let t = judged_tree (lines_of bytes) events (subst (λ state. Judged (lines_of bytes) state events) (after_is (state_in bytes scanner) a) r.judged) in (t.0, t.2)

pub truncated : (scanner : Scanner) (bytes : List ℕ) (events : List Event) → Records scanner bytes events → is_after (state_in bytes scanner) ≡ false →
    HasVerdict bytes (IsFaulty (length (lines_of bytes)) Truncated)
truncated scanner bytes events r a = judged_truncated (lines_of bytes) (state_in bytes scanner) events r.judged (not_after (state_in bytes scanner) a)

pub open_none : (scanner : Scanner) (bytes : List ℕ) (events : List Event) → Records scanner bytes events → is_after (state_in bytes scanner) ≡ false → (root : Root) → Spells (lines_of bytes) root → ⊥
open_none scanner bytes events r a root spells = (truncated scanner bytes events r a).1 root spells

-- the events are those of the tree
pub tree_events : (bytes : List ℕ) (state : State) (given : List Event) → Judged (lines_of bytes) state given → AreTreeEvents bytes given
tree_events bytes state given j root v = on state j
  where
    other : (state : State) → Judged (lines_of bytes) state given → (state ≡ After → ⊥) → ⊥
    other state j n =
        let w = judged_truncated (lines_of bytes) state given j n in
        let same : IsTree root ≡ IsFaulty (length (lines_of bytes)) Truncated = judges_one (lines_of bytes) (IsTree root) (IsFaulty (length (lines_of bytes)) Truncated) v w in
        absurd (cc)

    on : (state : State) → Judged (lines_of bytes) state given → given ≡ events_of root
    on After j = let t = judged_tree (lines_of bytes) given j in sym t.1 ∙ ap events_of (tree_one bytes t.0 root t.2 v)
    on Before j = absurd (other Before j (λ e. absurd (cc)))
    on (Attributes names name outer) j = absurd (other (Attributes names name outer) j (λ e. absurd (cc)))
    on (Inside text name outer) j = absurd (other (Inside text name outer) j (λ e. absurd (cc)))

pub few_events : (scanner : Scanner) (bytes : List ℕ) (events : List Event) → Records scanner bytes events → length events ≤ 16_777_216
few_events scanner bytes events r =
    let few = (judged_gives bytes (state_in bytes scanner) events r.judged).1 in let small = r.small in within (length events) (length bytes) few small
  where
    within : (a b : ℕ) → a ≤ b → b ≤ 16_777_216 → a ≤ 16_777_216
    within a b h k = omega arith

-- an ended line has no shorter one at its front
ended_take : (rest : List ℕ) (n : ℕ) → n ≤ length rest → is_ended (take n rest) ≡ true → is_ended rest ≡ true → n ≡ length rest
ended_take [] n l e f = absurd (cc)
ended_take (b ∷ []) zero l e f = absurd (cc)
ended_take (b ∷ []) (suc n) l e f = omega arith
ended_take (b ∷ c ∷ rest) zero l e f = absurd (cc)
ended_take (b ∷ c ∷ rest) (suc zero) l e f =
    let n = (and_parts (not (b == 10)) (is_ended (c ∷ rest)) f).0 in let g : true ≡ false = sym n ∙ ap not e in absurd (cc)
ended_take (b ∷ c ∷ rest) (suc (suc n)) l e f =
    let more = ended_take (c ∷ rest) (suc n) (omega arith) (and_parts (not (b == 10)) (is_ended (c ∷ take n rest)) e).1 (and_parts (not (b == 10)) (is_ended (c ∷ rest)) f).1 in omega arith

pub one_ended : (piece : List ℕ) (at end : ℕ) → at < end → end ≤ length piece → is_ended (line_to piece at end) ≡ true → is_ended (line_to piece at (length piece)) ≡ true → end ≡ length piece
one_ended piece at end l w e f =
    let n = length-drop at piece in
    let all : take (length piece - at) (drop at piece) ≡ drop at piece = take_all (length piece - at) (drop at piece) (omega arith) in
    let same = ended_take (drop at piece) (end - at) (omega arith) e (subst (λ bs. is_ended bs ≡ true) all f) in
    omega arith

pub lines_with : (bytes line : List ℕ) → is_whole bytes ≡ true → is_ended line ≡ true → lines_of (bytes ++ line) ≡ lines_of bytes ++ line ∷ []
lines_with bytes line w e =
    let (front, n, same) = ended_is line e in
    ap (λ l. lines_of (bytes ++ l)) same ∙ lines_push bytes front w n ∙ ap (λ l. lines_of bytes ++ l ∷ []) (sym same)

pub whole_with : (bytes line : List ℕ) → is_ended line ≡ true → is_whole (bytes ++ line) ≡ true
whole_with bytes line e = let (front, n, same) = ended_is line e in subst (λ l. is_whole (bytes ++ l) ≡ true) (sym same) (whole_push bytes front)

pub ended_some : (line : List ℕ) → is_ended line ≡ true → 0 < length line
ended_some [] e = absurd (cc)
ended_some (b ∷ line) e = omega arith

-- the line that was judged behind the others, as the piece is called there
pub taken_line : (old new : Scanner) (bytes line piece again whole : List ℕ) (at : ℕ) (told : Told) (events all : List Event) → Records old bytes events →
    lines_of (bytes ++ line) ≡ lines_of bytes ++ line ∷ [] → length bytes + length line ≤ 16_777_216 → piece ≡ bytes ++ line → again ≡ bytes ++ line → whole ≡ bytes ++ line → at ≡ length bytes →
    IsWithin piece new.run → IsWithin piece new.value → JudgesLine piece old (line_to piece at (length piece)) (Ok told) new → all ≡ events ++ brought_in again told new → Records new whole all
taken_line old new bytes line piece again whole at told events all r same fits p a w start run value judged given =
    let l = line_is_last bytes line piece at p start in
    let one = subst (λ x. Judging (state_in piece old) x (Ok tt) (state_in piece new) [] (brought_in piece told new)) l judged in
    let two = subst (λ bs. Judging (state_in bs old) line (Ok tt) (state_in bs new) [] (brought_in bs told new)) p one in
    let more = records_more old new bytes line events (brought_in (bytes ++ line) told new) r same fits (subst (λ bs. IsWithin bs new.run) p run) (subst (λ bs. IsWithin bs new.value) p value) two in
    let e : all ≡ events ++ brought_in (bytes ++ line) told new = given ∙ ap (λ bs. events ++ brought_in bs told new) a in
    subst (λ evs. Records new whole evs) (sym e) (subst (λ bs. Records new bs (events ++ brought_in (bytes ++ line) told new)) (sym w) more)

pub barred_line : (old new : Scanner) (bytes line piece : List ℕ) (at : ℕ) (events : List Event) (fault : LineFault) → Records old bytes events → length bytes + length line ≤ 16_777_216 →
    piece ≡ bytes ++ line → at ≡ length bytes → JudgesLine piece old (line_to piece at (length piece)) (Err fault) new → Refuses bytes line fault
barred_line old new bytes line piece at events fault r fits p start judged =
    let l = line_is_last bytes line piece at p start in
    refuses_barred old bytes line events fault r fits
    (subst (λ bs. Bars (state_in bs old) line fault) p (subst (λ x. Bars (state_in piece old) x fault) l judged))

-- no line that was recorded has a fault
pub recorded_fine : (scanner : Scanner) (bytes : List ℕ) (events : List Event) → Records scanner bytes events → AreFine bytes
recorded_fine scanner bytes events r = r.judged.fine
