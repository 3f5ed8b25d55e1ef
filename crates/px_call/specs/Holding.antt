-- What holds of every memo over a bank.
use Rattle.std.specs.Prelude.{◌≡◌, ℕ, true, List, []}
use Rattle.atomic_table.specs.Seated.{TableId}
use Rattle.px_text.specs.declared.op.Op.{Op}
use Rattle.px_text.specs.Operands.{Operand}
use Rattle.px_afa.specs.Building.{Automata}
use Rattle.px_rule.specs.Steps.{opening_view}
use Rattle.px_rule.specs.Table.{TableName, Seated, no_shape, is_inside}
use Rattle.px_rule.specs.Kept.{Grew}
use Rattle.px_intern.specs.Answers.{IsSound}
use Rattle.px_call.specs.Memory.{Memory, IsProgramAt}

abbrev pub no_table : TableId
no_table = record { words = 0; slots = 0; views_name = 0; atom = 0; block = 0; offset = 0; slot_names = [] }

-- a seat that no call began with
abbrev pub no_seat : {E : Type 0} → Seated E
no_seat = record { table = record { id = no_table; shape = no_shape }; view = opening_view no_shape }

-- Its seat is of the table that it looks at, and inside, where the call entered. Its program is that of the version there
pub record IsMemory {E : Type 0} (right : List E → Op → Operand → Operand → List ℕ → Type 0) (automata_of : List E → Automata) (here : TableName) (m : Memory E) : Type 0 where
  pub table : m.seat.table ≡ m.began.table
  pub at : m.seat.table ≡ here
  pub grew : Grew m.began.view m.seat.view
  pub inside : is_inside m.seat.view.stay.place ≡ true
  pub program : IsProgramAt automata_of m.seat.view m.automata
  pub sound : IsSound right m.seat.table.shape m.seat.view
