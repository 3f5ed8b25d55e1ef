-- What a call over the events of a document has done, while it is open. Everywhere v is the pass when the call began, and p the pass now.
use Rattle.std.specs.Prelude.{◌≡◌, ◌⊎◌, ℕ, ◌+◌, ◌<◌, ◌^◌, true, false, List, [], ◌++◌, length, Option, Some, None, Result, Ok, Err}
use mathlib.Core.Option.{some}
use lib.ListN.{get_elem?}
use Rattle.px_reader.specs.declared.event.Event.{Event}
use Rattle.px_reader.specs.Verdicts.{HasVerdict, IsFaulty}
use Rattle.px_afa.specs.Building.{Automata, program}
use Rattle.px_workload.specs.declared.change.Change.{Change}
use Rattle.px_workload.specs.Changes.{history}
use Rattle.px_rule.specs.declared.view.Place.TheVariants.{Outside, Inside}
use Rattle.px_rule.specs.declared.view.View.{View}
use Rattle.px_rule.specs.Words.{shows, version_of}
use Rattle.px_rule.specs.Table.{TableName, Seated, is_in}
use Rattle.px_rule.specs.Kept.{Grew, Since}
use Rattle.px_banks.specs.Answers.{inside, missed}
use Rattle.px_call.specs.declared.tally.Tally.{Tally}
use Rattle.px_call.specs.Calls.{Call, HasFiltered, steps_brought}
use Rattle.px_call.specs.Memory.{IsProgramAt}
use Rattle.px_hub.specs.declared.home.Home.TheVariants as home
use Rattle.px_hub.specs.declared.reply.Reply.{Reply}
use Rattle.px_hub.specs.declared.reply.Why.{Why}
use Rattle.px_hub.specs.declared.reply.Why.TheVariants as reply
use Rattle.px_hub.specs.declared.reply.FilterCallFault.{FilterCallFault}
use Rattle.px_hub.specs.declared.reply.FilterCallFault.TheVariants.{Doc, Memory}
use Rattle.px_hub.specs.declared.lone.Lone.{Lone}
use Rattle.px_hub.specs.declared.engine.Engine.{Engine}
use Rattle.px_hub.specs.declared.engine.Engine.TheVariants.{Private, Shared}
use Rattle.px_hub.specs.declared.entrance.Entrance.{Entrance}
use Rattle.px_hub.specs.declared.entrance.Entrance.TheVariants as entrance
use Rattle.px_hub.specs.declared.server.Server.{Server}
use Rattle.px_hub.specs.declared.server.Server.TheVariants as server
use Rattle.px_hub.specs.Entries.{IsRight}
use Rattle.px_hub.specs.Passes.{PassView}
use Rattle.px_hub.specs.Replying.{SamePass, NoneServes, reached, program_of, tally_of}
use Rattle.px_hub.specs.Counting.{HasCounted}

-- what a seat knows when it has entered a bank at a version, where it found the word
abbrev pub entered_at : (bank version word : ℕ) → View Change → View Change
entered_at bank version word v = record v { stay = inside bank version word v.stay }

abbrev pub seated : TableName → View Change → Seated Change
seated table view = record { table = table; view = view }

-- Nobody serves the call, for this cause. What the pass knows of places is as it was, and a machine of the program at its version has taken the events
pub record ServesItself (v p : PassView) (lone : Lone) (why : Why) (given : List Event) : Type 0 where
  pub cause : NoneServes v p why
  pub touch : p.view.touch ≡ v.view.touch
  pub outside : p.view.stay.place ≡ Outside
  pub counted : HasCounted lone (program_of v) given

-- The bank of the pass serves the call. The pass has the program of its version, and is inside its bank, which stood there; what was taken of the events was taken over it
pub record IsServed (table : TableName) (v p : PassView) (call : Call Change) (given : List Event) : Type 0 where
  pub have : v.have ≡ reached v
  pub bank : ℕ
  pub home : v.home ≡ home.Bank bank
  pub word : ℕ
  pub stood : shows (reached v) word ≡ true
  pub began : call.began ≡ seated table (entered_at bank (reached v) word v.view)
  pub filtered : HasFiltered IsRight (program_of v) call.began (seated table p.view) call given

abbrev pub Serves : TableName → PassView → PassView → Engine → List Event → Type 0
Serves table v p (Private lone why) given = ServesItself v p lone why given
Serves table v p (Shared call) given = IsServed table v p call given

-- The pass is in a bank exactly where the call goes over one
abbrev pub StandsAs : Engine → PassView → Type 0
StandsAs (Private lone why) p = p.view.stay.place ≡ Outside
StandsAs (Shared call) p = is_in p.view.stay.place ≡ true

-- The call is open on the pass
pub record IsOpen (v p : PassView) (engine : Engine) : Type 0 where
  pub same : SamePass v p
  pub is_open : p.is_open ≡ true
  pub stands : StandsAs engine p

-- And it has taken these events
pub record HasTaken (table : TableName) (v p : PassView) (engine : Engine) (given : List Event) : Type 0 where
  pub opened : IsOpen v p engine
  pub few : length given < 2 ^ 60
  pub serves : Serves table v p engine given

-- how many steps a machine of its own has counted
abbrev pub steps_counted : Lone → ℕ
steps_counted lone = lone.steps

-- what a call has counted
abbrev pub counted : Engine → Tally
counted (Private lone why) = tally_of 0 0 (steps_counted lone) None
counted (Shared call) = call.tally

-- The pass is inside its bank at its version, and has the program of that; or nobody serves the call, for a cause
abbrev pub IsInsideOrNot : PassView → PassView → Type 0
IsInsideOrNot v p =
    ((v.have ≡ reached v) × ((bank : ℕ) × (v.home ≡ home.Bank bank) × (p.view.stay.place ≡ Inside bank (reached v)))) ⊎ ((why : Why) × NoneServes v p why)

-- the three counts of a call are together the steps that its events have brought
abbrev pub CountSteps : PassView → Engine → List Event → Type 0
CountSteps v engine given = (counted engine).found + (counted engine).computed + (counted engine).own ≡ length (steps_brought (program_of v) given)

-- What follows is of the parts of these calls.

-- the pass with a call open, and with none
abbrev pub opened : PassView → PassView
opened v = record v { is_open = true }

abbrev pub closed : PassView → PassView
closed v = record v { is_open = false }

-- and behind the bank that it was in
abbrev pub left : PassView → PassView
left v = record v { view = record v.view { stay = record v.view.stay { place = Outside } }; is_open = false }

-- a call that makes all steps by itself, before the first event
abbrev pub BeginsAlone : Automata → Why → Engine → Type 0
BeginsAlone automata why engine = (lone : Lone) × (engine ≡ Private lone why) × HasCounted lone automata []

-- A seat has left a bank, or was counted out again: it is in none, has been inside at more, and has forgotten nothing
pub record HasLeft (v w : View Change) : Type 0 where
  pub past : w.past ≡ v.past
  pub place : w.stay.place ≡ Outside
  pub front : List (ℕ × ℕ)
  pub stays : w.stay.stays ≡ front ++ v.stay.stays
  pub busy : w.stay.busy ≡ v.stay.busy
  pub since : (n : ℕ) → Since n v w

-- what the call behind an entered bank, or the word found there, tells: seat is the seat before, and now the one behind
abbrev pub EntranceGives : (bank version : ℕ) → Automata → Seated Change → Seated Change → Entrance → Type 0
EntranceGives bank version automata seat now (entrance.Inside call) =
    (word : ℕ) × (shows version word ≡ true) × (call.began ≡ seated seat.table (entered_at bank version word seat.view)) × HasFiltered IsRight automata call.began now call []
EntranceGives bank version automata seat now (entrance.Gone word) =
    (now.view ≡ record seat.view { stay = missed word seat.view.stay }) × ((i : ℕ) → get_elem? seat.view.stay.stays i ≡ some (bank, version) → version < version_of word)

-- a call was begun over the bank that the seat is inside
abbrev pub BeginsInside : Automata → Seated Change → Seated Change → Entrance → Type 0
BeginsInside automata seat now (entrance.Inside call) = HasFiltered IsRight automata seat now call []
BeginsInside automata seat now (entrance.Gone word) = ⊥

-- Its machine has taken the events. Alone it works for a program, and over a bank for the one that was compiled
abbrev pub Has : (automata compiled : Automata) → Seated Change → Engine → List Event → Type 0
Has automata compiled seat (Private lone why) given = HasCounted lone automata given
Has automata compiled seat (Shared call) given = HasFiltered IsRight compiled call.began seat call given

-- over a bank the compiled program is that of the version that the seat is inside at
abbrev pub IsFor : View Change → Automata → Engine → Type 0
IsFor v compiled (Private lone why) = Unit {0}
IsFor v compiled (Shared call) = IsProgramAt (λ log. program (history log)) v compiled

-- it works alone for the same cause, or over a bank as before
abbrev pub IsAlike : Engine → Engine → Type 0
IsAlike (Private lone why) (Private other cause) = cause ≡ why
IsAlike (Private lone why) (Shared call) = ⊥
IsAlike (Shared call) (Shared other) = other.began ≡ call.began
IsAlike (Shared call) (Private lone why) = ⊥

-- alone it leaves the seat as it is, and over a bank it looks and writes
abbrev pub MayGrow : Engine → View Change → View Change → Type 0
MayGrow (Private lone why) v w = w ≡ v
MayGrow (Shared call) v w = Grew call.began.view w

-- who serves a call, as far as the pass knows
abbrev pub IsServer : PassView → Server → Type 0
IsServer v (server.Nobody why) = NoneServes v v why
IsServer v (server.Bank bank) = (v.have ≡ reached v) × (v.home ≡ home.Bank bank)

-- why the bank has no place for steps, by the first word that found none
abbrev pub why_of : Option ℕ → Why
why_of (Some word) = reply.Full word
why_of None = reply.Settled

-- the answer of a call over a bank, by what was found and counted
abbrev pub answer_of : {E : Type 0} → (version pass : ℕ) → Result (List ℕ × Tally) E → Result Reply E
answer_of version pass (Ok r) = Ok (record { version = version; pass = pass; ids = r.0; found = r.1.found; computed = r.1.computed; own = r.1.own; why = why_of r.1.full })
answer_of version pass (Err e) = Err e

-- and of one that made all steps by itself
abbrev pub answer_alone : {E : Type 0} → (version pass : ℕ) → Why → Result (List ℕ × ℕ) E → Result Reply E
answer_alone version pass why (Ok r) = Ok (record { version = version; pass = pass; ids = r.0; found = 0; computed = 0; own = r.1; why = why })
answer_alone version pass why (Err e) = Err e

-- the fault is that of the bytes, or no memory was left
abbrev pub IsJudged : List ℕ → FilterCallFault → Type 0
IsJudged bytes (Doc fault) = HasVerdict bytes (IsFaulty fault.line fault.kind)
IsJudged bytes Memory = Unit {0}
