-- What a call that filters a document answers, and what it makes of its pass. Everywhere v is the pass before the call, and w the pass after it.
use Rattle.std.specs.Prelude.{◌≡◌, ◌≢◌, ℕ, ◌+◌, ◌<◌, ◌⊎◌, true, false, List, [], ◌++◌, length, Result, Ok, Err, Option, Some, None}
use Rattle.px_text.specs.Nodes.{Root}
use Rattle.px_reader.specs.declared.event.Event.{Event}
use Rattle.px_reader.specs.declared.fault.DocFault.{DocFault}
use Rattle.px_reader.specs.Spelling.{events_of}
use Rattle.px_reader.specs.Lines.{lines_of}
use Rattle.px_reader.specs.Bringing.{Bring, lines_before}
use Rattle.px_reader.specs.Verdicts.{HasVerdict, IsFaulty, IsTree}
use Rattle.px_xpath.specs.Histories as histories
use Rattle.px_xpath.specs.Histories.{matches}
use Rattle.px_afa.specs.Building.{Automata, program}
use Rattle.px_afa.specs.Steps.{run, steps_of}
use Rattle.px_workload.specs.Changes.{history}
use Rattle.px_rule.specs.declared.shape.Shape.{Shape}
use Rattle.px_rule.specs.declared.view.Place.TheVariants.{Outside}
use Rattle.px_rule.specs.Words.{shows, version_of}
use Rattle.px_rule.specs.Kept.{IsAt, Since, Wrote}
use Rattle.px_call.specs.declared.tally.Tally.{Tally}
use Rattle.px_call.specs.Counted.{Counts, WordOf}
use Rattle.px_call.specs.Calls.{sets_held}
use Rattle.px_hub.specs.declared.home.Home.TheVariants as home
use Rattle.px_hub.specs.declared.reply.Reply.{Reply}
use Rattle.px_hub.specs.declared.reply.Why.{Why}
use Rattle.px_hub.specs.declared.reply.Why.TheVariants.{Unsettled, NoBank, Gone, Full, Settled}
use Rattle.px_hub.specs.declared.reply.FilterCallFault.{FilterCallFault}
use Rattle.px_hub.specs.declared.reply.FilterCallFault.TheVariants.{Doc, Memory}
use Rattle.px_hub.specs.Entries.{IsRight}
use Rattle.px_hub.specs.Passes.{PassView}
use Rattle.px_hub.specs.Calls.{seen_of}

-- the changes that a pass has seen, as a history, how many they are, and the program of the filters that are live behind them
abbrev pub history_of : PassView → List histories.Change
history_of p = history (seen_of p)

abbrev pub reached : PassView → ℕ
reached p = length (seen_of p)

abbrev pub program_of : PassView → Automata
program_of p = program (history_of p)

-- The pass has seen and made the same changes, and has the same program and bank or lack of one. What it knows of places has grown
pub record SamePass (v w : PassView) : Type 0 where
  pub number : w.number ≡ v.number
  pub past : w.view.past ≡ v.view.past
  pub have : w.have ≡ v.have
  pub home : w.home ≡ v.home
  pub since : (n : ℕ) → Since n v.view w.view

-- And it is in no bank, with no call open
pub record Stays (v w : PassView) : Type 0 where
  pub same : SamePass v w
  pub closed : w.is_open ≡ false
  pub outside : w.view.stay.place ≡ Outside

-- the pass was counted in at a bank once more, where it found the word
abbrev pub EnteredOnce : PassView → PassView → ℕ → Type 0
EnteredOnce v w word = (w.view.stay.enters ≡ v.view.stay.enters + 1) × (w.view.stay.found ≡ word)

-- it was counted in at none
abbrev pub EnteredNone : PassView → PassView → Type 0
EnteredNone v w = (w.view.stay.enters ≡ v.view.stay.enters) × (w.view.stay.found ≡ v.view.stay.found)

-- Why no bank serves the call: the pass has the program of another version; else it has no bank; else its bank was found at a later version
abbrev pub NoneServes : PassView → PassView → Why → Type 0
NoneServes v w (Unsettled have) = (have ≡ v.have) × (v.have ≢ reached v) × EnteredNone v w
NoneServes v w (NoBank words) = (v.have ≡ reached v) × (v.home ≡ home.NoBank words) × EnteredNone v w
NoneServes v w (Gone word) = (v.have ≡ reached v) × ((k : ℕ) × (v.home ≡ home.Bank k)) × EnteredOnce v w word × (v.have < version_of word)
NoneServes v w (Full word) = ⊥
NoneServes v w Settled = ⊥

-- The bank of the pass serves the call: it has the program of its version, and was counted in at its bank, which stood there. The steps of the run were read there, put there, or found no place there
pub record BankServes (z : Shape) (v w : PassView) (root : Root) (tally : Tally) : Type 0 where
  pub have : v.have ≡ reached v
  pub bank : ℕ
  pub home : v.home ≡ home.Bank bank
  pub word : ℕ
  pub entered : EnteredOnce v w word
  pub stood : shows (reached v) word ≡ true
  pub counts : Counts IsRight z bank (reached v) v.view w.view tally (run (history_of v) root) (sets_held (program_of v) (events_of root))

abbrev pub tally_of : (found computed own : ℕ) → Option ℕ → Tally
tally_of found computed own full = record { found = found; computed = computed; own = own; full = full }

-- Who made the steps of a whole call, and why: all are the call's own, or the bank had no place for some, of which the word is the first that found none, or none is its own
abbrev pub MadeBy : Shape → PassView → PassView → Root → (found computed own : ℕ) → Why → Type 0
MadeBy z v w root found computed own (Full word) = BankServes z v w root (tally_of found computed own (Some word)) × (0 < own)
MadeBy z v w root found computed own Settled = BankServes z v w root (tally_of found computed own None) × (own ≡ 0)
MadeBy z v w root found computed own why = NoneServes v w why × (w.view.touch ≡ v.view.touch) × (found ≡ 0) × (computed ≡ 0)

-- Each word that was written since is, at the bank and the version of the pass, the node word of a rest of a set of the tree's run, or the word of a step of it
abbrev pub WroteOf : Shape → PassView → PassView → Root → Type 0
WroteOf z v w root = Wrote (λ f. (k : ℕ) × (v.home ≡ home.Bank k) × IsAt k (reached v) (WordOf IsRight z k (reached v) w.view (run (history_of v) root) []) f) v.view w.view

-- The reply to a tree: the ids that match at the version of the pass, and the counts of the steps with their cause
pub record Replies (z : Shape) (v w : PassView) (root : Root) (reply : Reply) : Type 0 where
  pub stays : Stays v w
  pub version : reply.version ≡ reached v
  pub pass : reply.pass ≡ v.number
  pub ids : reply.ids ≡ matches (history_of v) root
  pub all_steps : reply.found + reply.computed + reply.own ≡ steps_of (history_of v) root
  pub wrote : WroteOf z v w root
  pub made_by : MadeBy z v w root reply.found reply.computed reply.own reply.why

-- The bytes have a fault, and what was written is of every tree whose events begin with those that the lines before it bring
pub record Refuses (z : Shape) (v w : PassView) (bytes : List ℕ) (fault : DocFault) : Type 0 where
  pub stays : Stays v w
  pub verdict : HasVerdict bytes (IsFaulty fault.line fault.kind)
  pub wrote : (given rest : List Event) (root : Root) → Bring (lines_before fault.kind fault.line (lines_of bytes)) given → events_of root ≡ given ++ rest → WroteOf z v w root

-- A call that filters a document: the reply to the tree that the bytes spell, or their fault
abbrev pub Filters : Shape → PassView → PassView → List ℕ → Result Reply FilterCallFault → Type 0
Filters z v w bytes (Ok reply) = (root : Root) × HasVerdict bytes (IsTree root) × Replies z v w root reply
Filters z v w bytes (Err (Doc fault)) = Refuses z v w bytes fault
Filters z v w bytes (Err Memory) = Stays v w

-- Of a pass that was w behind one call and is v before another: its version, program and bank or lack of one are the same, and it has forgotten nothing
pub record SameBetween (w v : PassView) : Type 0 where
  pub number : v.number ≡ w.number
  pub seen : seen_of v ≡ seen_of w
  pub have : v.have ≡ w.have
  pub home : v.home ≡ w.home
  pub since : Since (reached w) w.view v.view

-- after a settled reply another call on the same bytes finds all steps, or its bank is gone
abbrev pub AnswersAgain : Reply → Result Reply FilterCallFault → Type 0
AnswersAgain reply (Ok again) = (again.ids ≡ reply.ids) × (((again.why ≡ Settled) × (again.computed ≡ 0)) ⊎ ((word : ℕ) × (again.why ≡ Gone word)))
AnswersAgain reply (Err (Doc fault)) = ⊥
AnswersAgain reply (Err Memory) = Unit {0}
