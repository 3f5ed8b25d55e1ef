-- What contracts see of a memo over a bank, and what its values stand for.
use Rattle.std.specs.Prelude.{◌≡◌, ◌≢◌, ℕ, ◌<◌, ◌^◌, List, take, length, None}
use Rattle.px_text.specs.declared.op.Op.{Op}
use Rattle.px_text.specs.Operands.{Operand}
use Rattle.px_afa.specs.Building.{Automata}
use Rattle.px_afa.specs.Steps.{Step}
use Rattle.px_rule.specs.declared.view.View.{View}
use Rattle.px_rule.specs.Words.{Small}
use Rattle.px_rule.specs.Table.{Seated, bank_in, version_in}
use Rattle.px_rule.specs.Kept.{SetBlocked}
use Rattle.px_runner.specs.declared.held.Held.{Held}
use Rattle.px_runner.specs.declared.held.Held.TheVariants.{Plain, Numbered, Own}
use Rattle.px_intern.specs.Answers.{Names}
use Rattle.px_call.specs.declared.tally.Tally.{Tally}
use Rattle.px_call.specs.Counted.{Counts}

-- A memo over the bank that a seat is inside: its program, the seat when it had entered and the seat now, and what was counted since
pub record Memory (E : Type 0) : Type 0 where
  pub automata : Automata
  pub began : Seated E
  pub seat : Seated E
  pub tally : Tally

module _ {E : Type 0} where
  abbrev pub memory : Automata → Seated E → Seated E → Tally → Memory E
  memory automata began seat tally = record { automata = automata; began = began; seat = seat; tally = tally }

  abbrev pub program_of : Memory E → Automata
  program_of m = m.automata

  -- the program is that of the version that the view is inside at
  abbrev pub IsProgramAt : (List E → Automata) → View E → Automata → Type 0
  IsProgramAt automata_of v automata = automata ≡ automata_of (take (version_in v.stay.place) v.past.seen)

module _ {E : Type 0} (right : List E → Op → Operand → Operand → List ℕ → Type 0) where
  -- a number stands for the set that it names by what the view keeps, and a set that the bank has no room for stands for itself
  abbrev pub StandsFor : Memory E → Held → List ℕ → Type 0
  StandsFor m (Plain a) x = ⊥
  StandsFor m (Numbered s) x = Small s × Names right m.seat.table.shape m.seat.view s x
  StandsFor m (Own set) x = (set ≡ x) × ((w : ℕ) × SetBlocked right m.seat.table.shape (bank_in m.seat.view.stay.place) (version_in m.seat.view.stay.place) m.seat.view x w) × (m.tally.full ≢ None)

  -- It counted these steps and sets since it began, as long as the counts are numbers of 64 bits
  abbrev pub TellsOf : Memory E → List Step → List (List ℕ) → Type 0
  TellsOf m steps sets = length steps < 2 ^ 63
      → Counts right m.seat.table.shape (bank_in m.seat.view.stay.place) (version_in m.seat.view.stay.place) m.began.view m.seat.view m.tally steps sets
