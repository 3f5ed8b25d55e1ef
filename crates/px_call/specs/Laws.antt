-- What the counts of calls promise.
use Rattle.std.specs.Prelude.{◌≡◌, ◌⊎◌, ℕ, ◌+◌, ◌<◌, List, [], ◌++◌, length, Some, None, All}
use Rattle.px_text.specs.declared.op.Op.{Op}
use Rattle.px_text.specs.Operands.{Operand, set_of}
use Rattle.px_text.specs.Nodes.{Root}
use Rattle.px_reader.specs.declared.event.Event.{Event}
use Rattle.px_reader.specs.Spelling.{events_of}
use Rattle.px_afa.specs.Building.{Automata}
use Rattle.px_afa.specs.Steps.{Step, run_of}
use Rattle.px_rule.specs.declared.shape.Shape.{Shape}
use Rattle.px_rule.specs.declared.view.View.{View}
use Rattle.px_rule.specs.Kept.{IsAt, Since, Wrote}
use Rattle.px_call.specs.declared.tally.Tally.{Tally}
use Rattle.px_call.specs.Steps.{StepKept}
use Rattle.px_call.specs.Counted.{Among, WordOf, Counts}
use Rattle.px_call.specs.Calls.{sets_held, CountsAt}

-- each held set is empty or the first operand of a step
abbrev pub HeldFirst : List Step → List (List ℕ) → Type 0
HeldFirst steps sets = (x : List ℕ) → Among sets x → (x ≡ []) ⊎ ((s : Step) × Among steps s × (s.a ≡ set_of x))

-- and so it is over a whole document
abbrev pub HeldInRun : Type 0
HeldInRun = (automata : Automata) (root : Root) → HeldFirst (run_of automata root) (sets_held automata (events_of root))

-- the views know the same of the history and of places
abbrev pub KnowTheSame : {E : Type 0} → View E → View E → Type 0
KnowTheSame v w = (w.past ≡ v.past) × (w.touch ≡ v.touch)

module _ {E : Type 0} (right : List E → Op → Operand → Operand → List ℕ → Type 0) where
  -- the counts add up to the steps
  abbrev pub AddUp : Type 0
  AddUp = (z : Shape) (k n : ℕ) (began v : View E) (tally : Tally) (steps : List Step) (sets : List (List ℕ)) → Counts right z k n began v tally steps sets → tally.found + tally.computed + tally.own ≡ length steps

  -- where no path was full, no step is the call's own, and the word of each step is kept
  abbrev pub SettledKeeps : Type 0
  SettledKeeps = (z : Shape) (k n : ℕ) (began v : View E) (tally : Tally) (steps : List Step) (sets : List (List ℕ)) → Counts right z k n began v tally steps sets
      → tally.full ≡ None → (tally.own ≡ 0) × All (StepKept right z k n v) steps

  -- where a path was full, some step is the call's own
  abbrev pub FullOwns : Type 0
  FullOwns = (z : Shape) (k n : ℕ) (began v : View E) (tally : Tally) (steps : List Step) (sets : List (List ℕ)) → HeldFirst steps sets → Counts right z k n began v tally steps sets
      → (w : ℕ) → tally.full ≡ Some w → 0 < tally.own

  -- a call that found no path full, and later another on the same steps: it computes nothing, keeps nothing for itself, and finds no path full
  abbrev pub SecondCall : Type 0
  SecondCall = (z : Shape) (k n : ℕ) (began v began' v' : View E) (tally tally' : Tally) (steps : List Step) (sets sets' : List (List ℕ)) → HeldFirst steps sets'
      → Counts right z k n began v tally steps sets → tally.full ≡ None → Since n v began' → Counts right z k n began' v' tally' steps sets'
      → (tally'.computed ≡ 0) × (tally'.own ≡ 0) × (tally'.full ≡ None)

  -- the counts between two views inside a bank are those between the views before entering it and after leaving it
  abbrev pub CountsMove : Type 0
  CountsMove = (z : Shape) (k n : ℕ) (before began v after : View E) (tally : Tally) (steps : List Step) (sets : List (List ℕ)) → KnowTheSame before began → KnowTheSame v after
      → Counts right z k n began v tally steps sets → Counts right z k n before after tally steps sets

  -- and over a whole document they are those of the steps of its run
  abbrev pub CountsOfRun : Type 0
  CountsOfRun = (z : Shape) (k n : ℕ) (automata : Automata) (before began v after : View E) (tally : Tally) (root : Root) → KnowTheSame before began → KnowTheSame v after
      → CountsAt right z k n automata began v tally (events_of root) → Counts right z k n before after tally (run_of automata root) (sets_held automata (events_of root))

  -- each word that a call wrote is, for every document that its events begin, the node word of a rest of a set of the run, or the word of a step of it
  abbrev pub WritesOfRun : Type 0
  WritesOfRun = (z : Shape) (k n : ℕ) (automata : Automata) (began v : View E) (tally : Tally) (given rest : List Event) (root : Root) → events_of root ≡ given ++ rest
      → CountsAt right z k n automata began v tally given → Wrote (IsAt k n (WordOf right z k n v (run_of automata root) [])) began v
