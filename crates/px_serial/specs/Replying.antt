-- The lines for what is refused, and which filter a line says was changed.
use Rattle.std.specs.Prelude.{◌≡◌, ℕ, Option, Some, None}
use Rattle.px_feed.specs.declared.line.OutLine.{OutLine}
use Rattle.px_feed.specs.declared.line.OutLine.TheVariants.{Added, Dropped, Replaced, NoFilter, AddTooLarge, AddNoVersions, DropUnknown, DropNoVersions, ReplaceUnknown, ReplaceTooLarge, ReplaceNoVersions}
use Rattle.px_workload.specs.declared.refusal.Refusal.{Refusal}
use Rattle.px_workload.specs.declared.refusal.Refusal.TheVariants.{Unknown, TooLarge, NoVersions}
use Rattle.px_xpath.specs.declared.fault.ParseFault.{ParseFault}
use Rattle.px_xpath.specs.declared.fault.ParseFault.TheVariants.{Filter, Memory}

-- the line for a text that was refused as a filter; for want of memory there is none
abbrev pub IsLineOf : ParseFault → OutLine → Type 0
IsLineOf (Filter fault) line = line ≡ NoFilter fault
IsLineOf Memory line = ⊥

-- the line for an add that is refused; it names no id
abbrev pub IsAddRefused : Refusal → OutLine → Type 0
IsAddRefused Unknown line = ⊥
IsAddRefused (TooLarge live) line = line ≡ AddTooLarge live
IsAddRefused NoVersions line = line ≡ AddNoVersions

-- the line for a drop that is refused; it has no filter
abbrev pub IsDropRefused : Refusal → OutLine → Type 0
IsDropRefused Unknown line = line ≡ DropUnknown
IsDropRefused (TooLarge live) line = ⊥
IsDropRefused NoVersions line = line ≡ DropNoVersions

-- the line for a replacement that is refused
abbrev pub IsReplaceRefused : Refusal → OutLine → Type 0
IsReplaceRefused Unknown line = line ≡ ReplaceUnknown
IsReplaceRefused (TooLarge live) line = line ≡ ReplaceTooLarge live
IsReplaceRefused NoVersions line = line ≡ ReplaceNoVersions

-- the id whose filter a line says was added, dropped or replaced
abbrev pub changed : OutLine → Option ℕ
changed (Added id) = Some id
changed (Dropped id version) = Some id
changed (Replaced id version) = Some id
changed _ = None
