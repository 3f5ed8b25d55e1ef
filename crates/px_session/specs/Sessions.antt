-- What a session stands for. Everywhere v is the pass with which it was opened.
use Rattle.std.specs.Prelude.{◌≡◌, ◌⊎◌, ℕ, List, ◌++◌, flat_map, Result, Ok, Err}
use Rattle.px_reader.specs.declared.event.Event.{Event}
use Rattle.px_reader.specs.declared.fault.ReaderFault.{ReaderFault}
use Rattle.px_reader.specs.declared.fault.ReaderFault.TheVariants as reader
use Rattle.px_reader.specs.Progress.{Progress}
use Rattle.px_reader.specs.Reading.{HasRead}
use Rattle.px_rule.specs.declared.shape.Shape.{Shape}
use Rattle.px_rule.specs.Table.{TableName}
use Rattle.px_hub.specs.declared.engine.Engine.{Engine}
use Rattle.px_hub.specs.declared.reply.FilterCallFault.{FilterCallFault}
use Rattle.px_hub.specs.declared.reply.FilterCallFault.TheVariants as filter
use Rattle.px_hub.specs.Passes.{PassView}
use Rattle.px_hub.specs.Replying.{Filters}
use Rattle.px_hub.specs.OpenCalls.{HasTaken}

-- Its pass, what its reader has read, and its open call, or the fault at which it has stopped
pub record SessionView : Type 0 where
  pub pass : PassView
  pub reader : Progress
  pub stage : Result Engine ReaderFault

abbrev pub session_view : PassView → Progress → Result Engine ReaderFault → SessionView
session_view pass reader stage = record { pass = pass; reader = reader; stage = stage }

-- The reader has read the bytes, and the call, which is open on the pass p, has taken the events that they bring
pub record Runs (table : TableName) (v p : PassView) (reader : Progress) (engine : Engine) (bytes : List ℕ) (given : List Event) : Type 0 where
  pub read : HasRead reader bytes given
  pub taken : HasTaken table v p engine given

-- It was fed these bytes, and its call has taken the events that they bring
pub record IsFed (table : TableName) (v : PassView) (s : SessionView) (bytes : List ℕ) (given : List Event) : Type 0 where
  pub engine : Engine
  pub running : s.stage ≡ Ok engine
  pub runs : Runs table v s.pass s.reader engine bytes given

-- the fault of a reader as that of a filter call
abbrev pub call_fault : ReaderFault → FilterCallFault
call_fault (reader.Doc fault) = filter.Doc fault
call_fault reader.Memory = filter.Memory

-- however the bytes go on, a filter call on all of them answers the fault, and makes w of the pass
abbrev pub IsRefused : Shape → PassView → PassView → List ℕ → ReaderFault → Type 0
IsRefused z v w bytes fault = (rest : List ℕ) → Filters z v w (bytes ++ rest) (Err (call_fault fault))

-- It was fed these bytes, and has stopped with the fault. Its pass is in no bank
pub record HasStopped (table : TableName) (v : PassView) (s : SessionView) (bytes : List ℕ) (fault : ReaderFault) : Type 0 where
  pub stopped : s.stage ≡ Err fault
  pub refused : IsRefused table.shape v s.pass bytes fault

-- It was fed these bytes
abbrev pub Follows : TableName → PassView → SessionView → List ℕ → Type 0
Follows table v s bytes = ((given : List Event) × IsFed table v s bytes given) ⊎ ((fault : ReaderFault) × HasStopped table v s bytes fault)

-- it was opened on some pass, and fed some bytes
abbrev pub IsSession : TableName → SessionView → Type 0
IsSession table s = (v : PassView) × (bytes : List ℕ) × Follows table v s bytes

-- more events have come behind those given before
abbrev pub FedOn : TableName → PassView → SessionView → List ℕ → List Event → Type 0
FedOn table v s bytes given = (more : List Event) × IsFed table v s bytes (given ++ more)

-- the bytes of all pieces, one behind the other
abbrev pub joined : List (List ℕ) → List ℕ
joined pieces = flat_map (λ piece. piece) pieces
