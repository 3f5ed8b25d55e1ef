-- How far a reader has come.
use Rattle.std.specs.Prelude.{ℕ, List, Option}
use Rattle.px_reader.specs.declared.fault.ReaderFault.{ReaderFault}
use Rattle.px_reader.specs.Machine.{State}

-- The state that the ended lines lead to, what is kept of the line that has begun, how many bytes and ended lines there
-- are, and the fault that was answered.
pub record Progress : Type 0 where
  pub state : State
  pub kept : List ℕ
  pub size : ℕ
  pub lines : ℕ
  pub fault : Option ReaderFault
