-- What reading a piece makes of an open call. Everywhere v is the pass with which the session was opened, and p the pass now.
use Rattle.std.specs.Prelude.{◌≡◌, ℕ, List, ◌++◌, Result, Ok, Err}
use Rattle.px_text.specs.Nodes.{Root}
use Rattle.px_reader.specs.declared.event.Event.{Event}
use Rattle.px_reader.specs.declared.fault.DocFault.{DocFault}
use Rattle.px_reader.specs.declared.fault.ReaderFault.{ReaderFault}
use Rattle.px_reader.specs.declared.fault.ReaderFault.TheVariants.{Doc, Memory}
use Rattle.px_reader.specs.Bringing.{Bring, lines_before}
use Rattle.px_reader.specs.Lines.{lines_of}
use Rattle.px_reader.specs.Progress.{Progress}
use Rattle.px_reader.specs.Spelling.{events_of}
use Rattle.px_reader.specs.Verdicts.{HasVerdict, IsFaulty, IsTree}
use Rattle.px_rule.specs.Table.{TableName}
use Rattle.px_hub.specs.declared.engine.Engine.{Engine}
use Rattle.px_hub.specs.Passes.{PassView}
use Rattle.px_hub.specs.OpenCalls.{HasTaken, IsOpen}
use Rattle.px_session.specs.Sessions.{Runs, IsRefused}

-- more events were taken behind those taken before
abbrev pub RunsOn : TableName → PassView → PassView → Progress → Engine → List ℕ → List Event → Type 0
RunsOn table v p reader engine bytes given = (more : List Event) × Runs table v p reader engine bytes (given ++ more)

-- the fault is that of the bytes, and what the lines before it bring begins with the events
pub record FaultBehind (bytes : List ℕ) (given : List Event) (fault : DocFault) : Type 0 where
  pub verdict : HasVerdict bytes (IsFaulty fault.line fault.kind)
  pub begins : (brought : List Event) → Bring (lines_before fault.kind fault.line (lines_of bytes)) brought → (more : List Event) × (brought ≡ given ++ more)

-- The call has to be given up: it has taken events before a fault of the bytes, or memory was refused
abbrev pub GivesUp : TableName → PassView → PassView → Engine → List ℕ → ReaderFault → Type 0
GivesUp table v p engine bytes (Doc fault) = (given : List Event) × HasTaken table v p engine given × FaultBehind bytes given fault
GivesUp table v p engine bytes Memory = IsOpen v p engine

-- and that however the bytes go on
abbrev pub Stops : TableName → PassView → PassView → Engine → List ℕ → ReaderFault → Type 0
Stops table v p engine bytes fault = (rest : List ℕ) → GivesUp table v p engine (bytes ++ rest) fault

-- the bytes spell a tree, and the call has taken its events
abbrev pub Ends : TableName → PassView → PassView → Engine → List ℕ → Type 0
Ends table v p engine bytes = (root : Root) × HasVerdict bytes (IsTree root) × HasTaken table v p engine (events_of root)

-- what becomes of a running session, by its stage
abbrev pub Went : TableName → PassView → PassView → Progress → List ℕ → List Event → Result Engine ReaderFault → Type 0
Went table v p reader bytes given (Ok engine) = RunsOn table v p reader engine bytes given
Went table v p reader bytes given (Err fault) = IsRefused table.shape v p bytes fault

-- what a session answers to a piece, by the stage behind it
abbrev pub told : Result Engine ReaderFault → Result (Unit {0}) ReaderFault
told (Ok engine) = Ok tt
told (Err fault) = Err fault
