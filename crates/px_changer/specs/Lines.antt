-- The lines for what a hub answers to a change. For want of memory there is none.
use Rattle.std.specs.Prelude.{◌≡◌, ℕ, List, Option, Result, Ok, Err}
use Rattle.px_feed.specs.declared.line.OutLine.{OutLine}
use Rattle.px_feed.specs.declared.line.OutLine.TheVariants.{Added, Dropped, Replaced, NoFilter, AddTooLarge, AddNoVersions, DropUnknown, DropNoVersions, ReplaceUnknown, ReplaceTooLarge, ReplaceNoVersions}
use Rattle.px_xpath.specs.declared.fault.ParseFault.{ParseFault}
use Rattle.px_xpath.specs.declared.fault.ParseFault.TheVariants as parse
use Rattle.px_xpath.specs.Filters.{Way}
use Rattle.px_xpath.specs.declared.fault.FilterFault.{FilterFault}
use Rattle.px_feed.specs.Matches.{Parses}
use Rattle.px_feed.specs.Outputs.{AsksReplace}
use Rattle.px_workload.specs.declared.change.Change.{Change}
use Rattle.px_lines.specs.Replying.{Replies}
use Rattle.px_hub.specs.declared.faults.SubscribeFault.{SubscribeFault}
use Rattle.px_hub.specs.declared.faults.SubscribeFault.TheVariants as add
use Rattle.px_hub.specs.declared.faults.UnsubscribeFault.{UnsubscribeFault}
use Rattle.px_hub.specs.declared.faults.UnsubscribeFault.TheVariants as drop
use Rattle.px_hub.specs.declared.faults.ReplaceFault.{ReplaceFault}
use Rattle.px_hub.specs.declared.faults.ReplaceFault.TheVariants as replace

abbrev pub IsLineOfAdd : Result ℕ SubscribeFault → OutLine → Type 0
IsLineOfAdd (Ok id) line = line ≡ Added id
IsLineOfAdd (Err (add.Filter fault)) line = line ≡ NoFilter fault
IsLineOfAdd (Err (add.TooLarge live)) line = line ≡ AddTooLarge live
IsLineOfAdd (Err add.NoVersions) line = line ≡ AddNoVersions
IsLineOfAdd (Err add.Memory) line = ⊥

abbrev pub IsLineOfDrop : ℕ → Result ℕ UnsubscribeFault → OutLine → Type 0
IsLineOfDrop id (Ok version) line = line ≡ Dropped id version
IsLineOfDrop id (Err drop.Unknown) line = line ≡ DropUnknown
IsLineOfDrop id (Err drop.NoVersions) line = line ≡ DropNoVersions
IsLineOfDrop id (Err drop.Memory) line = ⊥

abbrev pub IsLineOfReplacement : ℕ → Result ℕ ReplaceFault → OutLine → Type 0
IsLineOfReplacement id (Ok version) line = line ≡ Replaced id version
IsLineOfReplacement id (Err (replace.Filter fault)) line = line ≡ NoFilter fault
IsLineOfReplacement id (Err replace.Unknown) line = line ≡ ReplaceUnknown
IsLineOfReplacement id (Err (replace.TooLarge live)) line = line ≡ ReplaceTooLarge live
IsLineOfReplacement id (Err replace.NoVersions) line = line ≡ ReplaceNoVersions
IsLineOfReplacement id (Err replace.Memory) line = ⊥

-- the line for a text that writes no filter
abbrev pub IsLineOfFault : ParseFault → OutLine → Type 0
IsLineOfFault (parse.Filter fault) line = line ≡ NoFilter fault
IsLineOfFault parse.Memory line = ⊥

-- the line answers a replacement of the id that is named, or of none, by the filter that the text writes
abbrev pub AnsweredNamed : Option ℕ → List ℕ → (before after : List Change) → OutLine → Type 0
AnsweredNamed id text before after line = (parsed : Result Way FilterFault) × Parses text parsed × Replies (AsksReplace id parsed) before after line
