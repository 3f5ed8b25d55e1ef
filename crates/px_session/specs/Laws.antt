-- What follows of a session that was fed.
use Rattle.std.specs.Prelude.{ℕ, List}
use Rattle.px_reader.specs.declared.event.Event.{Event}
use Rattle.px_rule.specs.Table.{TableName}
use Rattle.px_hub.specs.Passes.{PassView}
use Rattle.px_hub.specs.OpenCalls.{CountSteps, IsInsideOrNot}
use Rattle.px_session.specs.Sessions.{SessionView, IsFed}

-- its pass is inside its bank, or has its cause not to be
abbrev pub StaysInside : Type 0
StaysInside = (table : TableName) (v : PassView) (s : SessionView) (bytes : List ℕ) (given : List Event) → IsFed table v s bytes given → IsInsideOrNot v s.pass

-- what was found, computed and its own so far are together the steps that the events so far have brought
abbrev pub CountsAdd : Type 0
CountsAdd = (table : TableName) (v : PassView) (s : SessionView) (bytes : List ℕ) (given : List Event) (fed : IsFed table v s bytes given) → CountSteps v fed.engine given
