-- What a reader brings to an open call, and what is left of the call at a fault.
use Rattle.std.proofs.Common.{◌≡◌, ℕ, ◌<◌, ◌^◌, List, [], ◌++◌, length, ap, sym, ◌∙◌, subst, append_assoc, append-nil, arith}
use Rattle.std.specs.Prelude.{Result, Ok, Err, OnOk, IfErr}
use Rattle.px_text.specs.Nodes.{Root}
use Rattle.px_reader.specs.declared.event.Event.{Event}
use Rattle.px_reader.specs.declared.fault.ReaderFault.{ReaderFault}
use Rattle.px_reader.specs.declared.fault.ReaderFault.TheVariants.{Doc, Memory}
use Rattle.px_reader.specs.Progress.{Progress}
use Rattle.px_reader.specs.Reading.{HasRead, ReadsPart, GivesMore, FailsBy, EndsWhole, FailsAtEnd}
use Rattle.px_reader.specs.Spelling.{events_of}
use Rattle.px_reader.specs.Verdicts.{HasVerdict, IsFaulty}
use Rattle.px_rule.specs.Table.{TableName}
use Rattle.px_hub.specs.declared.engine.Engine.{Engine}
use Rattle.px_hub.specs.Passes.{PassView}
use Rattle.px_hub.specs.Replying.{Filters, Stays, WroteOf}
use Rattle.px_hub.specs.OpenCalls.{HasTaken, IsOpen}
use Rattle.px_session.specs.Sessions.{Runs, call_fault}
use Rattle.px_session.specs.Taking.{RunsOn, FaultBehind, GivesUp, Stops, Ends}
use Rattle.px_session.proofs.Behind.{fault_behind}

-- what a cleared buffer holds is what came
is_more : (before behind slice more : List Event) → before ≡ [] → slice ≡ behind → behind ≡ before ++ more → slice ≡ more
is_more before behind slice more none same is = same ∙ is ∙ ap (λ (l : List Event). l ++ more) none

-- the events of a document stay few
pub few_more : (old : Progress) (bytes : List ℕ) (given before behind slice : List Event) → before ≡ [] → slice ≡ behind → HasRead old bytes given → GivesMore old before behind → length (given ++ slice) < 2 ^ 60
few_more old bytes given before behind slice none same read gives =
    let g = gives bytes given read in
    let few = g.3 in
    subst (λ (l : List Event). length (given ++ l) < 2 ^ 60) (sym (is_more before behind slice g.0 none same g.1)) (omega arith)

-- a piece was read, and its events were taken
pub runs_on : (table : TableName) (v p q : PassView) (old new : Progress) (call later : Engine) (bytes piece : List ℕ) (given before behind slice : List Event) → before ≡ [] → slice ≡ behind → Runs table v p old call bytes given
    → ReadsPart old new piece before behind → HasTaken table v q later (given ++ slice) → RunsOn table v q new later (bytes ++ piece) given
runs_on table v p q old new call later bytes piece given before behind slice none same runs reads taken =
    let r = reads bytes given runs.read in
    let is = is_more before behind slice r.0 none same r.1 in
    (slice, record { read = subst (λ (l : List Event). HasRead new (bytes ++ piece) (given ++ l)) (sym is) r.2; taken = taken })

-- the piece has a fault
pub stops_read : (table : TableName) (v p : PassView) (old : Progress) (call : Engine) (bytes piece : List ℕ) (given : List Event) (fault : ReaderFault) → Runs table v p old call bytes given → FailsBy old piece fault
    → Stops table v p call (bytes ++ piece) fault
stops_read table v p old call bytes piece given (Doc fault) runs fails = λ rest.
    let verdict = fails bytes given runs.read rest in
    let is = append_assoc bytes piece rest in
    let behind = fault_behind old bytes (piece ++ rest) given fault runs.read (subst (λ (l : List ℕ). HasVerdict l (IsFaulty fault.line fault.kind)) is verdict) in
    (given, runs.taken, subst (λ (l : List ℕ). FaultBehind l given fault) (sym is) behind)
stops_read table v p old call bytes piece given Memory runs fails = λ rest. runs.taken.opened

-- the end was read, and its events were taken
pub ends_all : (table : TableName) (v p q : PassView) (old : Progress) (call later : Engine) (bytes : List ℕ) (given before behind slice : List Event) → before ≡ [] → slice ≡ behind → Runs table v p old call bytes given
    → EndsWhole old before behind → HasTaken table v q later (given ++ slice) → Ends table v q later bytes
ends_all table v p q old call later bytes given before behind slice none same runs ends taken =
    let e = ends bytes given runs.read in
    let is = is_more before behind slice e.1 none same e.2 in
    (e.0, e.4, subst (λ (l : List Event). HasTaken table v q later l) (ap (λ (l : List Event). given ++ l) is ∙ sym e.3) taken)

-- the end has a fault
pub gives_up_at_end : (table : TableName) (v p : PassView) (old : Progress) (call : Engine) (bytes : List ℕ) (given : List Event) (fault : ReaderFault) → Runs table v p old call bytes given → FailsAtEnd old fault
    → GivesUp table v p call bytes fault
gives_up_at_end table v p old call bytes given (Doc fault) runs fails =
    let is = append-nil bytes in
    let behind = fault_behind old bytes [] given fault runs.read (subst (λ (l : List ℕ). HasVerdict l (IsFaulty fault.line fault.kind)) (sym is) (fails bytes given runs.read)) in
    (given, runs.taken, subst (λ (l : List ℕ). FaultBehind l given fault) is behind)
gives_up_at_end table v p old call bytes given Memory runs fails = runs.taken.opened

-- a call that was abandoned for a fault is as a filter call that answers it
pub refused : (table : TableName) (v p w : PassView) (call : Engine) (bytes : List ℕ) (fault : ReaderFault) → ((opened : PassView) → IsOpen opened p call → Stays opened w)
    → ((opened : PassView) (given rest : List Event) (root : Root) → HasTaken table opened p call given → events_of root ≡ given ++ rest → WroteOf table.shape opened w root) → GivesUp table v p call bytes fault
    → Filters table.shape v w bytes (Err (call_fault fault))
refused table v p w call bytes (Doc fault) stays wrote g = record {
  stays = stays v g.1.opened;
  verdict = g.2.verdict;
  wrote = λ brought rest root b is.
      let m = g.2.begins brought b in
      wrote v g.0 (m.0 ++ rest) root g.1 (is ∙ ap (λ (l : List Event). l ++ rest) m.1 ∙ append_assoc g.0 m.0 rest);
}
refused table v p w call bytes Memory stays wrote g = stays v g

-- the call is open on the pass wherever it has to be given up
pub is_open : (table : TableName) (v p : PassView) (call : Engine) (bytes : List ℕ) (fault : ReaderFault) → GivesUp table v p call bytes fault → IsOpen v p call
is_open table v p call bytes (Doc fault) g = g.1.opened
is_open table v p call bytes Memory g = g

-- the events that were read were taken, or memory was refused to them
abbrev pub Gave : TableName → (p q : PassView) (call later : Engine) → List Event → Type 0
Gave table p q call later slice = (v : PassView) (given : List Event) → HasTaken table v p call given → length (given ++ slice) < 2 ^ 60 → HasTaken table v q later (given ++ slice)

abbrev pub GaveSome : TableName → (p q : PassView) (call later : Engine) → List Event → ReaderFault → Type 0
GaveSome table p q call later slice fault = (v : PassView) (given : List Event) → HasTaken table v p call given → length (given ++ slice) < 2 ^ 60 → IsOpen v q later × (fault ≡ Memory)

pub read_ok : (table : TableName) (p q : PassView) (old new : Progress) (call later : Engine) (piece : List ℕ) (before behind slice : List Event) (r : Result (Unit {0}) ReaderFault) → before ≡ [] → slice ≡ behind → GivesMore old before behind
    → ReadsPart old new piece before behind → OnOk r (Gave table p q call later slice)
    → OnOk r ((v : PassView) (bytes : List ℕ) (given : List Event) → Runs table v p old call bytes given → RunsOn table v q new later (bytes ++ piece) given)
read_ok table p q old new call later piece before behind slice (Ok u) none same gives reads gave = λ v bytes given runs.
    runs_on table v p q old new call later bytes piece given before behind slice none same runs reads (gave v given runs.taken (few_more old bytes given before behind slice none same runs.read gives))
read_ok table p q old new call later piece before behind slice (Err f) none same gives reads gave = tt

pub read_err : (table : TableName) (p q : PassView) (old : Progress) (call later : Engine) (piece : List ℕ) (before behind slice : List Event) (r : Result (Unit {0}) ReaderFault) → before ≡ [] → slice ≡ behind → GivesMore old before behind
    → IfErr r (GaveSome table p q call later slice)
    → IfErr r (λ fault. (v : PassView) (bytes : List ℕ) (given : List Event) → Runs table v p old call bytes given → Stops table v q later (bytes ++ piece) fault)
read_err table p q old call later piece before behind slice (Ok u) none same gives gave = tt
read_err table p q old call later piece before behind slice (Err fault) none same gives gave = λ v bytes given runs rest.
    let m = gave v given runs.taken (few_more old bytes given before behind slice none same runs.read gives) in
    subst (λ (f : ReaderFault). GivesUp table v q later ((bytes ++ piece) ++ rest) f) (sym m.1) m.0

pub end_ok : (table : TableName) (p q : PassView) (old : Progress) (call later : Engine) (before behind slice : List Event) (r : Result (Unit {0}) ReaderFault) → before ≡ [] → slice ≡ behind → GivesMore old before behind
    → EndsWhole old before behind → OnOk r (Gave table p q call later slice)
    → OnOk r ((v : PassView) (bytes : List ℕ) (given : List Event) → Runs table v p old call bytes given → Ends table v q later bytes)
end_ok table p q old call later before behind slice (Ok u) none same gives ends gave = λ v bytes given runs.
    ends_all table v p q old call later bytes given before behind slice none same runs ends (gave v given runs.taken (few_more old bytes given before behind slice none same runs.read gives))
end_ok table p q old call later before behind slice (Err f) none same gives ends gave = tt

pub end_err : (table : TableName) (p q : PassView) (old : Progress) (call later : Engine) (before behind slice : List Event) (r : Result (Unit {0}) ReaderFault) → before ≡ [] → slice ≡ behind → GivesMore old before behind
    → IfErr r (GaveSome table p q call later slice)
    → IfErr r (λ fault. (v : PassView) (bytes : List ℕ) (given : List Event) → Runs table v p old call bytes given → GivesUp table v q later bytes fault)
end_err table p q old call later before behind slice (Ok u) none same gives gave = tt
end_err table p q old call later before behind slice (Err fault) none same gives gave = λ v bytes given runs.
    let m = gave v given runs.taken (few_more old bytes given before behind slice none same runs.read gives) in
    subst (λ (f : ReaderFault). GivesUp table v q later bytes f) (sym m.1) m.0
