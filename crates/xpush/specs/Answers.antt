-- What a run of the program answers.
use Rattle.std.specs.Prelude.{◌≡◌, ◌≤◌, ◌++◌, ◌⊎◌, ℕ, Bool, true, false, List, [], Option, Some, IfSome, IsNone, IsTrue, IsFalse}
use Rattle.px_io.specs.Faults.{Rose}
use Rattle.px_io.specs.Flows.{TakesFrom, AddsTo, IsSpent}
use Rattle.px_feed.specs.declared.line.OutLine.{OutLine}
use Rattle.px_feed.specs.declared.status.Status.{Status}
use Rattle.px_feed.specs.declared.status.Status.TheVariants.{Done, Refused, Usage, ReadFault, WriteFault, Memory}
use Rattle.px_options.specs.declared.OptionsError.{OptionsError}
use Rattle.px_options.specs.declared.OptionsError.TheVariants as unread
use Rattle.px_feed.specs.Generator.{feed}
use Rattle.px_feed.specs.Items.{Item, AreWhole}
use Rattle.px_feed.specs.Lines.{line_text}
use Rattle.px_feed.specs.Matches.{AnswersMatch, OutShow, status_behind}
use Rattle.px_feed.specs.Outputs.{AreLines, Out, text_of}
use Rattle.px_document.specs.declared.finding.Finding.{Finding}
use Rattle.px_document.specs.CutShort.{CutAtDocument, CutAtProof}
use Rattle.px_document.specs.Findings as findings
use Rattle.px_document.specs.Outputs as outputs
use Rattle.px_parallel.specs.Sums.{OutLoad}
use Rattle.xpush.specs.Forms.{Form, Explains, Loads, Makes, Matches, Serves, Shows, Verifies}

-- a text, and the status behind it
abbrev pub Output : Type 0
Output = List ℕ × Status

-- what is answered to a form, before it is written: by `match` a line, by `explain` and `verify` a finding
abbrev pub Answer : Form → Type 0
Answer (Matches filter) = OutLine
Answer (Shows filter) = Output
Answer (Explains filter) = Finding
Answer (Verifies filter) = Finding
Answer (Makes seed filters documents) = Output
Answer (Serves hub) = Output
Answer (Loads seed filters documents hub) = Output

-- this is the answer to the form, where the source has these bytes
abbrev pub IsAnswer : (form : Form) → (bytes : List ℕ) → Answer form → Type 0
IsAnswer (Matches filter) bytes line = AnswersMatch filter bytes line
IsAnswer (Shows filter) bytes output = OutShow filter output.0 output.1
IsAnswer (Explains filter) bytes finding = outputs.Explains filter bytes finding
IsAnswer (Verifies filter) bytes finding = outputs.Verifies filter bytes finding
IsAnswer (Makes seed filters documents) bytes output = (output.0 ≡ feed seed filters documents) × (output.1 ≡ Done)
IsAnswer (Serves hub) bytes output = Out bytes output.0 output.1
IsAnswer (Loads seed filters documents hub) bytes output = OutLoad seed filters documents output.0 × (output.1 ≡ Done)

-- what is written of an answer
abbrev pub answer_text : (form : Form) → Answer form → List ℕ
answer_text (Matches filter) line = line_text line
answer_text (Shows filter) output = output.0
answer_text (Explains filter) finding = findings.text finding
answer_text (Verifies filter) finding = findings.text finding
answer_text (Makes seed filters documents) output = output.0
answer_text (Serves hub) output = output.0
answer_text (Loads seed filters documents hub) output = output.0

-- and how the run ends
abbrev pub answer_status : (form : Form) → Answer form → Status
answer_status (Matches filter) line = status_behind line
answer_status (Shows filter) output = output.1
answer_status (Explains filter) finding = findings.status finding
answer_status (Verifies filter) finding = findings.status finding
answer_status (Makes seed filters documents) output = output.1
answer_status (Serves hub) output = output.1
answer_status (Loads seed filters documents hub) output = output.1

abbrev pub is_done : Status → Bool
is_done Done = true
is_done _ = false

-- whether an answer is known only once the whole input is read
abbrev pub needs_all : (form : Form) → Answer form → Bool
needs_all (Matches filter) line = findings.line_needs_all line
needs_all (Shows filter) output = false
needs_all (Explains filter) finding = findings.needs_all finding
needs_all (Verifies filter) finding = findings.needs_all finding
needs_all (Makes seed filters documents) output = false
needs_all (Serves hub) output = is_done output.1
needs_all (Loads seed filters documents hub) output = false

-- whether it is known before anything is read
abbrev pub needs_none : (form : Form) → Answer form → Bool
needs_none (Matches filter) line = findings.line_is_of_filter line
needs_none (Shows filter) output = true
needs_none (Explains filter) finding = findings.is_of_filter finding
needs_none (Verifies filter) finding = findings.is_of_filter finding
needs_none (Makes seed filters documents) output = true
needs_none (Serves hub) output = false
needs_none (Loads seed filters documents hub) output = true

-- the text and the status of a form, where the source has these bytes
abbrev pub OutOf : Form → (bytes text : List ℕ) → Status → Type 0
OutOf form bytes text status =
    (answer : Answer form) × IsAnswer form bytes answer × (text ≡ answer_text form answer) × (status ≡ answer_status form answer)

-- what a source and a sink tell at some moment: the bytes that are left and those that are held, and the counts of their faults
pub record Moment : Type 0 where
  pub left : Option (List ℕ)
  pub held : Option (List ℕ)
  pub read_faults : ℕ
  pub write_faults : ℕ

abbrev pub moment : (left held : Option (List ℕ)) → (read_faults write_faults : ℕ) → Moment
moment left held read_faults write_faults = record { left = left; held = held; read_faults = read_faults; write_faults = write_faults }

-- whether the form reads its source
abbrev pub reads : Form → Bool
reads (Shows filter) = false
reads (Makes seed filters documents) = false
reads (Loads seed filters documents hub) = false
reads _ = true

-- a form that reads its source finds these bytes there; one that reads nothing would answer the same to any
abbrev pub Finds : Form → (left : Option (List ℕ)) → (bytes : List ℕ) → Type 0
Finds (Matches filter) left bytes = left ≡ Some bytes
Finds (Shows filter) left bytes = Unit {0}
Finds (Explains filter) left bytes = left ≡ Some bytes
Finds (Verifies filter) left bytes = left ≡ Some bytes
Finds (Makes seed filters documents) left bytes = Unit {0}
Finds (Serves hub) left bytes = left ≡ Some bytes
Finds (Loads seed filters documents hub) left bytes = Unit {0}

-- What was written is the output, by an answer for which the source was read as far as it needs.
pub record IsOutput (form : Form) (left after : Option (List ℕ)) (written : List ℕ) (status : Status) : Type 0 where
  pub answer : Answer form
  pub answers : (bytes : List ℕ) → Finds form left bytes → IsAnswer form bytes answer
  pub written_is : written ≡ answer_text form answer
  pub ended : status ≡ answer_status form answer
  pub read_whole : IsTrue (needs_all form answer) → IsSpent after
  pub unread : IsTrue (needs_none form answer) → after ≡ left

-- These bytes are the front of the output: nothing yet, or a front of its text.
abbrev pub IsFrontOfOut : Form → (bytes written : List ℕ) → Type 0
IsFrontOfOut form bytes written =
    (written ≡ []) ⊎ ((text rest : List ℕ) × (status : Status) × OutOf form bytes text status × (text ≡ written ++ rest))

-- What was written is the front of the output.
abbrev pub IsFront : Form → (left : Option (List ℕ)) → (written : List ℕ) → Type 0
IsFront form left written = (bytes : List ℕ) → Finds form left bytes → IsFrontOfOut form bytes written

-- What was written are the lines of the items that are whole in the bytes read.
pub record AreLinesOfWhole (left after : Option (List ℕ)) (written : List ℕ) : Type 0 where
  pub bytes : List ℕ
  pub read : TakesFrom left bytes after
  pub items : List Item
  pub are_whole : AreWhole bytes items
  pub lines : List OutLine
  pub are_lines : AreLines items lines
  pub written_is : written ≡ text_of lines

-- What was written where the source met a fault: nothing, but of a feed the lines of its whole items. Nothing that was read whole is at fault. A form that reads nothing meets no such fault.
abbrev pub IsOfWhole : Form → (left after : Option (List ℕ)) → (written : List ℕ) → Type 0
IsOfWhole (Matches filter) left after written = CutAtDocument filter left after × (written ≡ [])
IsOfWhole (Shows filter) left after written = ⊥
IsOfWhole (Explains filter) left after written = CutAtDocument filter left after × (written ≡ [])
IsOfWhole (Verifies filter) left after written = CutAtProof filter left after × (written ≡ [])
IsOfWhole (Makes seed filters documents) left after written = ⊥
IsOfWhole (Serves hub) left after written = AreLinesOfWhole left after written
IsOfWhole (Loads seed filters documents hub) left after written = ⊥

-- What was written, by the status: the output, or of one that was cut short a front. Words that are in a form are no `Usage`.
abbrev pub Wrote : Status → Form → (left after : Option (List ℕ)) → (written : List ℕ) → Type 0
Wrote Done form left after written = IsOutput form left after written Done
Wrote Refused form left after written = IsOutput form left after written Refused
Wrote Usage form left after written = ⊥
Wrote ReadFault form left after written = IsOfWhole form left after written
Wrote WriteFault form left after written = IsFront form left written
Wrote Memory form left after written = IsFront form left written

-- A run of a form, from one moment to another, that ended with this status.
pub record Ran (form : Form) (before after : Moment) (status : Status) : Type 0 where
  pub written : List ℕ
  pub added : AddsTo before.held written after.held
  pub wrote : Wrote status form before.left after.left written
  -- also where it was cut short
  pub unread : IsFalse (reads form) → after.left ≡ before.left
  pub read_fault : status ≡ ReadFault → Rose before.read_faults after.read_faults
  pub write_fault : status ≡ WriteFault → Rose before.write_faults after.write_faults
  pub read_counts : before.read_faults ≤ after.read_faults
  pub write_counts : before.write_faults ≤ after.write_faults

-- Words in no form are answered so, or, where they name a command with options, for want of memory. The source and the sink are as they were.
pub record RanNot (has_options : Bool) (before after : Moment) (status : Status) : Type 0 where
  pub ended : (status ≡ Usage) ⊎ (IsTrue has_options × (status ≡ Memory))
  pub untouched : after ≡ before

-- a run of the form that was said, or of none
abbrev pub RanSaid : Option Form → (has_options : Bool) → (before after : Moment) → Status → Type 0
RanSaid said has_options before after status = IfSome said (λ form. Ran form before after status) × (IsNone said → RanNot has_options before after status)

-- how a run ends whose words were not read
abbrev pub refused : OptionsError → Status
refused unread.Usage = Usage
refused unread.Memory = Memory
