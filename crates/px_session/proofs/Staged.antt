-- A session by its stage.
use Rattle.std.proofs.Common.{◌≡◌, inl, inr, ℕ, List, [], ◌++◌, refl, ap, sym, ◌∙◌, subst, append_assoc, append-nil}
use Rattle.std.specs.Prelude.{Result, Ok, Err, IfErr, OnOk, OnErr}
use Rattle.px_reader.specs.declared.event.Event.{Event}
use Rattle.px_reader.specs.declared.fault.ReaderFault.{ReaderFault}
use Rattle.px_reader.specs.declared.fault.ReaderFault.TheVariants as reader
use Rattle.px_reader.specs.Progress.{Progress}
use Rattle.px_reader.specs.Reading.{HasRead}
use Rattle.px_rule.specs.declared.shape.Shape.{Shape}
use Rattle.px_rule.specs.Table.{TableName}
use Rattle.px_hub.specs.declared.engine.Engine.{Engine}
use Rattle.px_hub.specs.Passes.{PassView}
use Rattle.px_hub.specs.Replying.{Filters, Stays}
use Rattle.px_hub.specs.OpenCalls.{HasTaken}
use Rattle.px_hub.proofs.Opening.{ok_on}
use Rattle.px_session.specs.Sessions.{SessionView, session_view, Runs, IsFed, FedOn, Follows, HasStopped, IsRefused, call_fault}
use Rattle.px_session.specs.Taking.{Went, told}

abbrev pub err_or : {A E : Type 0} → E → Result A E → E
err_or d (Ok a) = d
err_or d (Err e) = e

abbrev pub ok_or : {A E : Type 0} → A → Result A E → A
ok_or d (Ok a) = a
ok_or d (Err e) = d

pub ok_same : {A E : Type 0} (r : Result A E) (a b : A) → r ≡ Ok a → r ≡ Ok b → a ≡ b
ok_same r a b e f = sym (ap (ok_or a) e) ∙ ap (ok_or a) f

pub err_same : {A E : Type 0} (r : Result A E) (a b : E) → r ≡ Err a → r ≡ Err b → a ≡ b
err_same r a b e f = sym (ap (err_or a) e) ∙ ap (err_or a) f

pub not_err : {A E : Type 0} (a : A) (e : E) → Ok a ≡ Err e → ⊥
not_err a e is = subst (λ r. OnErr r ⊥) is tt

-- a session with an open call runs
pub runs_with : (table : TableName) (v p : PassView) (old : Progress) (stage : Result Engine ReaderFault) (call : Engine) (bytes : List ℕ) (given : List Event) → stage ≡ Ok call
    → IsFed table v (session_view p old stage) bytes given → Runs table v p old call bytes given
runs_with table v p old stage call bytes given is fed = subst (λ (e : Engine). Runs table v p old e bytes given) (ok_same stage fed.engine call fed.running is) fed.runs

pub runs : (table : TableName) (v p : PassView) (old : Progress) (stage : Result Engine ReaderFault) (call : Engine) (bytes : List ℕ) → stage ≡ Ok call
    → Follows table v (session_view p old stage) bytes → (given : List Event) × Runs table v p old call bytes given
runs table v p old stage call bytes is (inl fed) = (fed.0, runs_with table v p old stage call bytes fed.0 is fed.1)
runs table v p old stage call bytes is (inr stop) = absurd (not_err call stop.0 (sym is ∙ stop.1.stopped))

-- a session with a fault has stopped with it
pub stopped_with : (table : TableName) (v p : PassView) (old : Progress) (stage : Result Engine ReaderFault) (fault : ReaderFault) (bytes : List ℕ) → stage ≡ Err fault
    → Follows table v (session_view p old stage) bytes → IsRefused table.shape v p bytes fault
stopped_with table v p old stage fault bytes is (inl fed) = absurd (not_err fed.1.engine fault (sym fed.1.running ∙ is))
stopped_with table v p old stage fault bytes is (inr stop) = subst (λ (f : ReaderFault). IsRefused table.shape v p bytes f) (err_same stage stop.0 fault stop.1.stopped is) stop.1.refused

-- what is refused stays so behind more bytes
pub refused_on : (z : Shape) (v p : PassView) (bytes piece : List ℕ) (fault : ReaderFault) → IsRefused z v p bytes fault → IsRefused z v p (bytes ++ piece) fault
refused_on z v p bytes piece fault refused = λ rest.
    subst (λ (l : List ℕ). Filters z v p l (Err (call_fault fault))) (sym (append_assoc bytes piece rest)) (refused (piece ++ rest))

pub refused_now : (z : Shape) (v p : PassView) (bytes : List ℕ) (fault : ReaderFault) → IsRefused z v p bytes fault → Filters z v p bytes (Err (call_fault fault))
refused_now z v p bytes fault refused = subst (λ (l : List ℕ). Filters z v p l (Err (call_fault fault))) (append-nil bytes) (refused [])

pub stays : (z : Shape) (v p : PassView) (bytes : List ℕ) (fault : ReaderFault) → Filters z v p bytes (Err (call_fault fault)) → Stays v p
stays z v p bytes (reader.Doc fault) f = f.stays
stays z v p bytes reader.Memory f = f

-- a piece was taken
pub on_ok : (table : TableName) (p w : PassView) (old new : Progress) (stage r : Result Engine ReaderFault) (call : Engine) (piece : List ℕ) → stage ≡ Ok call
    → ((v : PassView) (bytes : List ℕ) (given : List Event) → Runs table v p old call bytes given → Went table v w new (bytes ++ piece) given r)
    → OnOk r ((v : PassView) (bytes : List ℕ) (given : List Event) → IsFed table v (session_view p old stage) bytes given → FedOn table v (session_view w new r) (bytes ++ piece) given)
on_ok table p w old new stage (Ok engine) call piece is went = λ v bytes given fed.
    let m = went v bytes given (runs_with table v p old stage call bytes given is fed) in
    (m.0, record { engine = engine; running = refl; runs = m.1 })
on_ok table p w old new stage (Err fault) call piece is went = tt

pub on_fault : (table : TableName) (p w : PassView) (old new : Progress) (stage r : Result Engine ReaderFault) (call : Engine) (piece : List ℕ) → stage ≡ Ok call
    → ((v : PassView) (bytes : List ℕ) (given : List Event) → Runs table v p old call bytes given → Went table v w new (bytes ++ piece) given r)
    → IfErr r (λ fault. (v : PassView) (bytes : List ℕ) → Follows table v (session_view p old stage) bytes → HasStopped table v (session_view w new r) (bytes ++ piece) fault)
on_fault table p w old new stage (Ok engine) call piece is went = tt
on_fault table p w old new stage (Err fault) call piece is went = λ v bytes follows.
    let g = runs table v p old stage call bytes is follows in
    record { stopped = refl; refused = went v bytes g.0 g.1 }

-- what is told of a stage
pub told_ok : (s : Result Engine ReaderFault) (r : Result (Unit {0}) ReaderFault) (P : Type 0) → r ≡ told s → OnOk s P → OnOk r P
told_ok s r P is h = subst (λ (x : Result (Unit {0}) ReaderFault). OnOk x P) (sym is) (on s h)
  where
    on : (s : Result Engine ReaderFault) → OnOk s P → OnOk (told s) P
    on (Ok engine) h = h
    on (Err fault) h = tt

pub told_err : (s : Result Engine ReaderFault) (r : Result (Unit {0}) ReaderFault) (P : ReaderFault → Type 0) → r ≡ told s → IfErr s P → IfErr r P
told_err s r P is h = subst (λ (x : Result (Unit {0}) ReaderFault). IfErr x P) (sym is) (on s h)
  where
    on : (s : Result Engine ReaderFault) → IfErr s P → IfErr (told s) P
    on (Ok engine) h = tt
    on (Err fault) h = h

-- a session follows the bytes and the piece
pub followed : {A : Type 0} (table : TableName) (v : PassView) (old new : SessionView) (bytes piece : List ℕ) (r : Result A ReaderFault)
    → OnOk r ((v : PassView) (bytes : List ℕ) (given : List Event) → IsFed table v old bytes given → FedOn table v new (bytes ++ piece) given)
    → IfErr r (λ fault. (v : PassView) (bytes : List ℕ) → Follows table v old bytes → HasStopped table v new (bytes ++ piece) fault)
    → ((fault : ReaderFault) → HasStopped table v old bytes fault → r ≡ Err fault)
    → Follows table v old bytes → Follows table v new (bytes ++ piece)
followed table v old new bytes piece (Ok a) on off same (inl fed) = let m = on v bytes fed.0 fed.1 in inl (fed.0 ++ m.0, m.1)
followed table v old new bytes piece (Ok a) on off same (inr stop) = absurd (not_err a stop.0 (same stop.0 stop.1))
followed table v old new bytes piece (Err fault) on off same follows = inr (fault, off v bytes follows)

-- a session was opened, and fed nothing
pub fed_nothing : (table : TableName) (v p : PassView) (reader : Progress) (call : Engine) → HasRead reader [] [] → HasTaken table v p call [] → IsFed table v (session_view p reader (Ok call)) [] []
fed_nothing table v p reader call read taken = record { engine = call; running = refl; runs = record { read = read; taken = taken } }

-- what holds of a session holds of its parts, and of those with its stage moved out
pub inside_of : (P : SessionView → Type 0) (p : PassView) (old : Progress) (stage moved : Result Engine ReaderFault) (s : SessionView) → session_view p old stage ≡ s → moved ≡ stage → P s → P (session_view p old moved)
inside_of P p old stage moved s seen same h = subst (λ (st : Result Engine ReaderFault). P (session_view p old st)) (sym same) (subst P (sym seen) h)

abbrev pub GoesOn : TableName → (s new : SessionView) → List ℕ → Type 0
GoesOn table s new piece = (v : PassView) (bytes : List ℕ) (given : List Event) → IsFed table v s bytes given → FedOn table v new (bytes ++ piece) given

abbrev pub StopsWith : TableName → (s new : SessionView) → List ℕ → ReaderFault → Type 0
StopsWith table s new piece fault = (v : PassView) (bytes : List ℕ) → Follows table v s bytes → HasStopped table v new (bytes ++ piece) fault

err_on : {A E : Type 0} (P Q : E → Type 0) (r : Result A E) → ((e : E) → P e → Q e) → IfErr r P → IfErr r Q
err_on P Q (Ok a) on h = tt
err_on P Q (Err e) on h = on e h

pub fed_ok : (table : TableName) (p : PassView) (old : Progress) (stage moved : Result Engine ReaderFault) (s new : SessionView) (piece : List ℕ) (r : Result Engine ReaderFault) (answer : Result (Unit {0}) ReaderFault)
    → session_view p old stage ≡ s → moved ≡ stage → answer ≡ told r → OnOk r (GoesOn table (session_view p old moved) new piece) → OnOk answer (GoesOn table s new piece)
fed_ok table p old stage moved s new piece r answer seen same is h =
    told_ok r answer (GoesOn table s new piece) is
    (ok_on (GoesOn table (session_view p old moved) new piece) (GoesOn table s new piece) r
    (λ on v bytes given fed. on v bytes given (inside_of (λ (x : SessionView). IsFed table v x bytes given) p old stage moved s seen same fed)) h)

pub fed_err : (table : TableName) (p : PassView) (old : Progress) (stage moved : Result Engine ReaderFault) (s new : SessionView) (piece : List ℕ) (r : Result Engine ReaderFault) (answer : Result (Unit {0}) ReaderFault)
    → session_view p old stage ≡ s → moved ≡ stage → answer ≡ told r → IfErr r (StopsWith table (session_view p old moved) new piece) → IfErr answer (StopsWith table s new piece)
fed_err table p old stage moved s new piece r answer seen same is h =
    told_err r answer (StopsWith table s new piece) is
    (err_on (StopsWith table (session_view p old moved) new piece) (StopsWith table s new piece) r
    (λ fault on v bytes follows. on v bytes (inside_of (λ (x : SessionView). Follows table v x bytes) p old stage moved s seen same follows)) h)
