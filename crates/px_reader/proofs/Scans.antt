-- The quick way is the long way on lines of its forms.
use Rattle.std.proofs.Common.{◌≡◌, ℕ, zero, suc, ◌+◌, ◌-◌, ◌<◌, ◌≤◌, Bool, true, false, not, List, [], ◌∷◌, ◌++◌, ◌==◌, length, take, drop, get_or, refl, ap, sym, ◌∙◌, subst, Some, Ok, length-drop, add-one, arith, IsUtf8, bytes_eq, if◌then◌else◌}
use Rattle.std.specs.List.{list_all}
use Rattle.std.specs.Cmp.Derive.{both_true}
use Rattle.std.proofs.Math.Seq.{drop-cons}
use Rattle.std.proofs.lemmas.Bool.{and_parts}
use Rattle.std.proofs.lemmas.List.{take_more}
use Rattle.std.proofs.lemmas.Slice.Eq.{bytes_eq-Decides}
use Rattle.px_text.specs.Names.{is_pyx_name, begins_name, continues_name}
use Rattle.px_reader.specs.declared.event.Event.{Event}
use Rattle.px_reader.specs.declared.event.Event.TheVariants.{Start, Text, End}
use Rattle.px_reader.specs.declared.phase.Phase.{Phase}
use Rattle.px_reader.specs.declared.phase.Phase.TheVariants as phases
use Rattle.px_reader.specs.declared.fault.DocKind.TheVariants.{TooDeep}
use Rattle.px_reader.specs.declared.fault.LineFault.TheVariants.{Kind}
use Rattle.px_reader.specs.Lines.{Opens, Closes, named, line_of, without_end, is_ended}
use Rattle.px_reader.specs.Machine.{State, Attributes, step, closed, text_event, open_in}
use Rattle.px_reader.specs.Scanned.{no_bytes, line_to}
use Rattle.px_reader.specs.Scanning.{standing, told_events}
use Rattle.px_reader.specs.declared.scanner.Told.{Told}
use Rattle.px_reader.specs.declared.scanner.Own.TheVariants as Own
use Rattle.px_reader.specs.States.{open_text, is_after, Judging, Takes, Refuses}
use Rattle.px_reader.specs.Stacks.{is_none, first_of, behind_first}
use Rattle.px_reader.proofs.Feeds.{longer}
use Rattle.px_reader.proofs.QuickLines.{opens_is, closes_is, name_byte}

-- a line of a piece, by its first byte and its line feed
pub line_is : (piece rest : List ℕ) (at count b : ℕ) → rest ≡ drop (at + 1) piece → at < length piece → get_or piece at 0 ≡ b → count < length rest → get_or rest count 0 ≡ 10 →
    line_to piece at (at + count + 2) ≡ b ∷ (take count rest ++ 10 ∷ [])
line_is piece rest at count b r l f m e =
    let n : at + count + 2 - at ≡ suc (count + 1) = omega arith in
    let d : drop at piece ≡ b ∷ rest = rw (drop-cons piece at 0) (ap (λ x. x ∷ drop (suc at) piece) f ∙ ap (λ bs. b ∷ bs) (ap (λ k. drop k piece) (sym (add-one at)) ∙ sym r)) in
    ap (λ k. take k (drop at piece)) n ∙ ap (take (suc (count + 1))) d ∙ ap (λ bs. b ∷ bs) (take_more rest count 0 m ∙ ap (λ x. take count rest ++ x ∷ []) e)

pub line_within : (piece rest : List ℕ) (at count : ℕ) → rest ≡ drop (at + 1) piece → count < length rest → at + count + 2 ≤ length piece
line_within piece rest at count r m = let n = ap length r ∙ length-drop (at + 1) piece in omega arith

-- a name at the front
pub name_is : (rest : List ℕ) (count : ℕ) → 0 < count → count ≤ length rest → begins_name (get_or rest 0 0) ≡ true → list_all continues_name (take count rest) ≡ true → is_pyx_name (take count rest) ≡ true
name_is rest zero some l b n = absurd (omega arith)
name_is [] (suc count) some l b n = absurd (omega arith)
name_is (x ∷ rest) (suc count) some l b n = both_true b (and_parts (continues_name x) (list_all continues_name (take count rest)) n).1

-- a name and a line feed behind a byte are an ended line
pub name_ends : (name : List ℕ) (b : ℕ) → list_all continues_name name ≡ true → not (b == 10) ≡ true → is_ended (b ∷ (name ++ 10 ∷ [])) ≡ true
name_ends name b n f = longer b (name ++ 10 ∷ []) f (ends name n)
  where
    ends : (name : List ℕ) → list_all continues_name name ≡ true → is_ended (name ++ 10 ∷ []) ≡ true
    ends [] n = refl
    ends (x ∷ name) n =
        let p = and_parts (continues_name x) (list_all continues_name name) n in
        let f : not (x == 10) ≡ true = ap not (name_byte x p.0).0 in
        longer x (name ++ 10 ∷ []) f (ends name p.1)

-- the event of a run that has ended
pub run_event : (phase : Phase) (is_run : Bool) (text : List ℕ) (says : Bool) → says ≡ not (no_bytes (open_text phase (if is_run then text else []))) →
    (if says then Text text ∷ [] else []) ≡ text_event (open_text phase (if is_run then text else []))
run_event phases.Start is_run text says e = rw e refl
run_event phases.Giving is_run text says e = rw e refl
run_event phases.Body false text says e = rw e refl
run_event phases.Body true [] says e = rw e refl
run_event phases.Body true (b ∷ text) says e = rw e refl

open_in_standing : (phase : Phase) (attributes : List (List ℕ)) (text : List ℕ) (names : List (List ℕ)) → open_in (standing phase attributes text names) ≤ length names
open_in_standing phases.Start attributes text [] = omega arith
open_in_standing phases.Giving attributes text [] = omega arith
open_in_standing phases.Body attributes text [] = omega arith
open_in_standing phases.Start attributes text (name ∷ outer) = omega arith
open_in_standing phases.Giving attributes text (name ∷ outer) = omega arith
open_in_standing phases.Body attributes text (name ∷ outer) = omega arith

opened : (phase : Phase) (attributes : List (List ℕ)) (text name : List ℕ) (names : List (List ℕ)) → is_after (standing phase attributes text names) ≡ false →
    step (standing phase attributes text names) (Opens name) ≡ Some (Attributes [] name names, text_event (open_text phase text) ++ Start name ∷ [])
opened phases.Start attributes text name [] a = refl
opened phases.Giving attributes text name [] a = absurd (cc)
opened phases.Body attributes text name [] a = absurd (cc)
opened phases.Start attributes text name (last ∷ outer) a = refl
opened phases.Giving attributes text name (last ∷ outer) a = refl
opened phases.Body attributes text name (last ∷ outer) a = refl

-- `(name`, as it is judged
pub open_judged : (phase : Phase) (attributes : List (List ℕ)) (is_run : Bool) (text : List ℕ) (names : List (List ℕ)) (name line after : List ℕ) (says : Bool) →
    is_pyx_name name ≡ true → line ≡ 40 ∷ (name ++ 10 ∷ []) → length name < 1_048_576 → is_after (standing phase attributes (if is_run then text else []) names) ≡ false → length names < 512 →
    says ≡ not (no_bytes (open_text phase (if is_run then text else []))) → IsUtf8 line →
    Judging (standing phase attributes (if is_run then text else []) names) line (Ok tt) (standing phases.Giving [] after (name ∷ names)) [] ((if says then Text text ∷ [] else []) ++ Start name ∷ [])
open_judged phase attributes is_run text names name line after says n e short more room s u =
    let old = standing phase attributes (if is_run then text else []) names in
    let new = standing phases.Giving [] after (name ∷ names) in
    let behind = (if says then Text text ∷ [] else []) ++ Start name ∷ [] in
    let parts = opens_is name n in
    let content : without_end line ≡ 40 ∷ name = ap without_end e ∙ parts.0 in
    let kind : line_of (without_end line) ≡ Opens name = ap (λ l. line_of (without_end l)) e ∙ parts.1 in
    let fits : length (without_end line) ≤ 1_048_576 = let k = ap length content in omega arith in
    let deep : open_in old < 512 = let k = open_in_standing phase attributes (if is_run then text else []) names in omega arith in
    let brought = text_event (open_text phase (if is_run then text else [])) ++ Start name ∷ [] in
    let takes : Takes old (Opens name) (Ok tt) new [] behind =
    (deep, (brought, opened phase attributes (if is_run then text else []) name names more, ap (λ evs. evs ++ Start name ∷ []) (run_event phase is_run text says s))) in
    ((fits, u), subst (λ l. Takes old l (Ok tt) new [] behind) (sym kind) takes)

closed_is : (attributes outer : List (List ℕ)) → closed outer ≡ standing phases.Body attributes [] outer
closed_is attributes [] = refl
closed_is attributes (name ∷ outer) = refl

closes : (phase : Phase) (attributes : List (List ℕ)) (text name : List ℕ) (names : List (List ℕ)) →
    step (standing phase attributes text (name ∷ names)) (Closes name) ≡ Some (standing phases.Body attributes [] names, text_event (open_text phase text) ++ End ∷ [])
closes phase attributes text name names = by_phase phase ((bytes_eq-Decides name name).1 refl)
  where
    by_phase : (phase : Phase) → bytes_eq name name ≡ true →
        step (standing phase attributes text (name ∷ names)) (Closes name) ≡ Some (standing phases.Body attributes [] names, text_event (open_text phase text) ++ End ∷ [])
    by_phase phases.Start b = rw b (ap (λ s. Some (s, End ∷ [])) (closed_is attributes names))
    by_phase phases.Giving b = rw b (ap (λ s. Some (s, End ∷ [])) (closed_is attributes names))
    by_phase phases.Body b = rw b (ap (λ s. Some (s, text_event text ++ End ∷ [])) (closed_is attributes names))

-- `)name` of the innermost element, as it is judged
pub close_judged : (phase : Phase) (attributes : List (List ℕ)) (is_run : Bool) (text : List ℕ) (names : List (List ℕ)) (name line : List ℕ) (says : Bool) →
    is_pyx_name name ≡ true → line ≡ 41 ∷ (name ++ 10 ∷ []) → length name < 1_048_576 →
    says ≡ not (no_bytes (open_text phase (if is_run then text else []))) → IsUtf8 line →
    Judging (standing phase attributes (if is_run then text else []) (name ∷ names)) line (Ok tt) (standing phases.Body attributes [] names) [] ((if says then Text text ∷ [] else []) ++ End ∷ [])
close_judged phase attributes is_run text names name line says n e short s u =
    let old = standing phase attributes (if is_run then text else []) (name ∷ names) in
    let new = standing phases.Body attributes [] names in
    let behind = (if says then Text text ∷ [] else []) ++ End ∷ [] in
    let parts = closes_is name n in
    let content : without_end line ≡ 41 ∷ name = ap without_end e ∙ parts.0 in
    let kind : line_of (without_end line) ≡ Closes name = ap (λ l. line_of (without_end l)) e ∙ parts.1 in
    let fits : length (without_end line) ≤ 1_048_576 = let k = ap length content in omega arith in
    let brought = text_event (open_text phase (if is_run then text else [])) ++ End ∷ [] in
    let takes : Takes old (Closes name) (Ok tt) new [] behind =
    (tt, (brought, closes phase attributes (if is_run then text else []) name names, ap (λ evs. evs ++ End ∷ []) (run_event phase is_run text says s))) in
    ((fits, u), subst (λ l. Takes old l (Ok tt) new [] behind) (sym kind) takes)

-- the same by equal states and events
pub judged_as : (old new new' : State) (line : List ℕ) (brought brought' : List Event) → new' ≡ new → brought' ≡ brought → Judging old line (Ok tt) new [] brought → Judging old line (Ok tt) new' [] brought'
judged_as old new new' line brought brought' s b j =
    subst (λ st. Judging old line (Ok tt) st [] brought') (sym s) (subst (λ evs. Judging old line (Ok tt) new [] evs) (sym b) j)

pub last_of : (names : List (List ℕ)) (name : List ℕ) → is_none names ≡ false → name ≡ first_of names → names ≡ name ∷ behind_first names
last_of [] name n e = absurd (cc)
last_of (first ∷ outer) name n e = ap (λ x. x ∷ outer) (sym e)

pub first_is_name : (names : List (List ℕ)) (name : List ℕ) (outer : List (List ℕ)) → names ≡ name ∷ outer → list_all is_pyx_name names ≡ true → is_pyx_name name ≡ true
first_is_name names name outer e n = (and_parts (is_pyx_name name) (list_all is_pyx_name outer) (subst (λ ns. list_all is_pyx_name ns ≡ true) e n)).0

-- `(name` where no element may open any more
pub open_deep : (phase : Phase) (attributes : List (List ℕ)) (text name : List ℕ) (names : List (List ℕ)) → is_pyx_name name ≡ true → is_after (standing phase attributes text names) ≡ false → 512 ≤ length names →
    Refuses (standing phase attributes text names) (named Opens name) (Kind TooDeep)
open_deep phase attributes text name names n a deep =
    let whole : named Opens name ≡ Opens name = rw n refl in
    subst (λ line. Refuses (standing phase attributes text names) line (Kind TooDeep)) (sym whole)
    ((Attributes [] name names, text_event (open_text phase text) ++ Start name ∷ []), opened phase attributes text name names a, omega arith)
