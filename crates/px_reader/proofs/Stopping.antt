-- What has been given where a fault comes.
use Rattle.std.proofs.Common.{◌≡◌, ℕ, ◌+◌, ◌-◌, List, [], ◌++◌, length, take, refl, ap, sym, ◌∙◌, subst, Result, Ok, Err, IfErr, append_assoc, append-nil, arith}
use Rattle.std.proofs.lemmas.List.{take_all}
use Rattle.px_reader.specs.declared.event.Event.{Event}
use Rattle.px_reader.specs.declared.fault.DocKind.{DocKind}
use Rattle.px_reader.specs.declared.fault.DocKind.TheVariants.{NotHere, NotUtf8, LineLong, TooDeep, TooManyAttributes, TooBig, Truncated}
use Rattle.px_reader.specs.declared.fault.LineFault.{LineFault}
use Rattle.px_reader.specs.declared.fault.LineFault.TheVariants.{Kind, LineMemory}
use Rattle.px_reader.specs.declared.fault.ReaderFault.{ReaderFault}
use Rattle.px_reader.specs.declared.fault.ReaderFault.TheVariants.{Doc, Memory}
use Rattle.px_reader.specs.Bringing.{Appends, GivesUpTo, StandsAt, lines_before}
use Rattle.px_reader.specs.Judged.{Judged}
use Rattle.px_reader.specs.Lines.{lines_of}
use Rattle.px_reader.specs.Machine.{State}
use Rattle.px_reader.specs.Progress.{Progress}
use Rattle.px_reader.specs.Reading.{Reading, HasRead, ReadsAll, IsFirstFault, fault_at}
use Rattle.px_reader.specs.States.{Judging, Bars}
use Rattle.px_reader.specs.Verdicts.{HasVerdict, IsFaulty}
use Rattle.px_reader.proofs.Endless.{never_truncated}
use Rattle.px_reader.proofs.Feeding.{ReadsTo}
use Rattle.px_reader.proofs.LineCuts.{lines_whole, take_lines}

pub appends_none : (before behind : List Event) → behind ≡ before → Appends before behind
appends_none before behind e = ([], e ∙ sym (append-nil before))

pub appends_on : (before between behind : List Event) → Appends before between → Appends between behind → Appends before behind
appends_on before between behind (m, e) (n, f) = (m ++ n, f ∙ ap (λ evs. evs ++ n) e ∙ append_assoc before m n)

-- a line that is judged
pub judging_appends : (old new : State) (line : List ℕ) (answer : Result (Unit {0}) LineFault) (before behind : List Event) → Judging old line answer new before behind → Appends before behind
judging_appends old new line (Ok u) before behind (fit, (room, (brought, s, b))) = (brought, b)
judging_appends old new line (Err fault) before behind (b, e) = appends_none before behind e

pub stands_at : (line : ℕ) (fault : LineFault) → StandsAt line (fault_at line fault)
stands_at line (Kind kind) = refl
stands_at line LineMemory = tt

-- the fault is one of a line, or memory was refused
abbrev pub IsEarly : ReaderFault → Type 0
IsEarly (Doc fault) = fault.kind ≡ Truncated → ⊥
IsEarly Memory = Unit {0}

-- a fault that shows whatever follows is one of a line
pub first_early : (bytes : List ℕ) (fault : ReaderFault) → IsFirstFault bytes fault → IsEarly fault
first_early bytes Memory first = tt
first_early bytes (Doc fault) first = λ truncated.
    let P : DocKind → Type 0 = λ kind. (rest : List ℕ) → HasVerdict (bytes ++ rest) (IsFaulty fault.line kind) in
    never_truncated bytes fault.line (subst P truncated first)

pub barred_early : (state : State) (line : List ℕ) (number : ℕ) (fault : LineFault) → Bars state line fault → IsEarly (fault_at number fault)
barred_early state line number LineMemory b = tt
barred_early state line number (Kind kind) b = λ truncated. let P : DocKind → Type 0 = λ kind. Bars state line (Kind kind) in subst P truncated b

before_is : (kind : DocKind) (line : ℕ) (lines : List (List ℕ)) → (kind ≡ Truncated → ⊥) → lines_before kind line lines ≡ take (line - 1) lines
before_is NotHere line lines n = refl
before_is NotUtf8 line lines n = refl
before_is LineLong line lines n = refl
before_is TooDeep line lines n = refl
before_is TooManyAttributes line lines n = refl
before_is TooBig line lines n = refl
before_is Truncated line lines n = absurd (n refl)

-- the lines that have ended are the first lines of whatever follows
ended_lines : (state : State) (kept : List ℕ) (size lines : ℕ) (bytes rest : List ℕ) (given : List Event) (r : Reading state kept size lines bytes given) →
    take lines (lines_of (bytes ++ rest)) ≡ lines_of r.ended
ended_lines state kept size lines bytes rest given r =
    let cut : bytes ++ rest ≡ r.ended ++ (r.begun ++ rest) = ap (λ bs. bs ++ rest) r.bytes_are ∙ append_assoc r.ended r.begun rest in
    let all : lines_of (bytes ++ rest) ≡ lines_of r.ended ++ lines_of (r.begun ++ rest) = ap lines_of cut ∙ lines_whole r.ended (r.begun ++ rest) r.whole in
    ap (λ ls. take lines ls) all ∙ ap (λ n. take n (lines_of r.ended ++ lines_of (r.begun ++ rest))) r.lines_are
    ∙ take_lines (lines_of r.ended) (lines_of (r.begun ++ rest)) (length (lines_of r.ended)) (omega arith)
    ∙ take_all (length (lines_of r.ended)) (lines_of r.ended) (omega arith)

-- all lines that have ended are judged, and the fault is that of the next
pub up_to : (state : State) (kept : List ℕ) (size lines : ℕ) (bytes rest : List ℕ) (given before behind more : List Event) (fault : ReaderFault) →
    Reading state kept size lines bytes (given ++ more) → behind ≡ before ++ more → StandsAt (lines + 1) fault → IsEarly fault → GivesUpTo fault (bytes ++ rest) given before behind
up_to state kept size lines bytes rest given before behind more Memory r e at early =
    let same = ended_lines state kept size lines bytes rest (given ++ more) r in
    let j : Judged (take lines (lines_of (bytes ++ rest))) state (given ++ more) = subst (λ ls. Judged ls state (given ++ more)) (sym same) r.judged in
    (more, e, (lines, [], (state, subst (λ (evs : List Event). Judged (take lines (lines_of (bytes ++ rest))) state evs) (sym (append-nil (given ++ more))) j)))
up_to state kept size lines bytes rest given before behind more (Doc fault) r e at early =
    let number : fault.line - 1 ≡ lines = omega (arith, at) in
    let same : lines_before fault.kind fault.line (lines_of (bytes ++ rest)) ≡ lines_of r.ended =
    before_is fault.kind fault.line (lines_of (bytes ++ rest)) early ∙ ap (λ n. take n (lines_of (bytes ++ rest))) number ∙ ended_lines state kept size lines bytes rest (given ++ more) r in
    (more, e, (state, subst (λ ls. Judged ls state (given ++ more)) (sym same) r.judged))

-- a piece that is read up to the line of the fault
pub reads_to_stops : (old middle : Progress) (piece rest : List ℕ) (before between behind : List Event) (fault : ReaderFault) → ReadsTo old middle piece rest before between →
    behind ≡ between → StandsAt (middle.lines + 1) fault → ((bytes : List ℕ) (given : List Event) → HasRead old bytes given → IsFirstFault (bytes ++ piece) fault) →
    (bytes : List ℕ) (given : List Event) → HasRead old bytes given → GivesUpTo fault (bytes ++ piece) given before behind
reads_to_stops old middle piece rest before between behind fault r same at first bytes given h =
    let (more, e, k) = r.reads bytes given h in
    let cut : bytes ++ piece ≡ (bytes ++ r.done) ++ rest = ap (λ bs. bytes ++ bs) r.piece_is ∙ sym (append_assoc bytes r.done rest) in
    subst (λ bs. GivesUpTo fault bs given before behind) (sym cut)
    (up_to middle.state middle.kept middle.size middle.lines (bytes ++ r.done) rest given before behind more fault k.reading (same ∙ e) at
    (first_early (bytes ++ piece) fault (first bytes given h)))

pub rest_stops : {T : Type 0} (result : Result T ReaderFault) (old middle : Progress) (piece rest : List ℕ) (before between behind : List Event) →
    ReadsTo old middle piece rest before between → behind ≡ between →
    IfErr result (λ fault. (bytes : List ℕ) (given : List Event) → HasRead old bytes given → IsFirstFault (bytes ++ piece) fault) → IfErr result (λ fault. StandsAt (middle.lines + 1) fault) →
    IfErr result (λ fault. (bytes : List ℕ) (given : List Event) → HasRead old bytes given → GivesUpTo fault (bytes ++ piece) given before behind)
rest_stops (Ok found) old middle piece rest before between behind r same first at = tt
rest_stops (Err fault) old middle piece rest before between behind r same first at = reads_to_stops old middle piece rest before between behind fault r same at first

-- a last line without line feed, which is barred
pub last_stops : (old : Progress) (bytes : List ℕ) (given before behind : List Event) (line : List ℕ) (fault : LineFault) → HasRead old bytes given → Bars old.state line fault →
    StandsAt (old.lines + 1) (fault_at (old.lines + 1) fault) → behind ≡ before → GivesUpTo (fault_at (old.lines + 1) fault) bytes given before behind
last_stops old bytes given before behind line fault h barred at same =
    let none : given ++ [] ≡ given = append-nil given in
    let r = subst (λ (evs : List Event). Reading old.state old.kept old.size old.lines bytes evs) (sym none) h.reading in
    subst (λ bs. GivesUpTo (fault_at (old.lines + 1) fault) bs given before behind) (append-nil bytes)
    (up_to old.state old.kept old.size old.lines bytes [] given before behind [] (fault_at (old.lines + 1) fault) r (same ∙ sym (append-nil before)) at
    (barred_early old.state line (old.lines + 1) fault barred))

-- all lines are judged, and the root is open
pub all_stops : (state : State) (lines : ℕ) (bytes : List ℕ) (given before behind : List Event) → ReadsAll state lines bytes given before behind →
    GivesUpTo (Doc (record { line = lines; kind = Truncated })) bytes given before behind
all_stops state lines bytes given before behind (more, e, j, l) = (more, e, (state, j))
