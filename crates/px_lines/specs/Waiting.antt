-- Lines on their way to the sink.
use Rattle.std.specs.Prelude.{◌≡◌, ◌++◌, ℕ, List, Option, Result, IsTrue, OnOk, IfErr}
use Rattle.std.specs.List.{list_any}
use Rattle.px_io.specs.Flows.{AddsTo}
use Rattle.px_feed.specs.declared.line.OutLine.{OutLine}
use Rattle.px_feed.specs.declared.status.Status.{Status}
use Rattle.px_feed.specs.declared.status.Status.TheVariants.{Done, Refused, ReadFault, WriteFault, Memory}
use Rattle.px_feed.specs.Lines.{is_refusal}
use Rattle.px_feed.specs.Outputs.{text_of, status_of}
use Rattle.px_lines.specs.Served.{is_cut_short}
use Rattle.px_lines.specs.Fronts.{AddsFront}
use Rattle.px_lines.specs.declared.outgoing.Outgoing.{Outgoing}

-- Of these lines all are written but what waits, and it is known whether one of them is a refusal.
pub record HasSaid (outgoing : Outgoing) (held now : Option (List ℕ)) (lines : List OutLine) : Type 0 where
  pub written : List ℕ
  pub added : AddsTo held written now
  pub waits : written ++ outgoing.pending.items ≡ text_of lines
  pub refused : outgoing.refused ≡ list_any is_refusal lines

-- the call was cut short when it wrote these lines
abbrev pub IsCut : Status → (held now : Option (List ℕ)) → List OutLine → Type 0
IsCut status held now lines = IsTrue (is_cut_short status) × AddsFront held (text_of lines) now

-- what a call makes of lines that were said before
abbrev pub SaysOn : Result (Unit {0}) Status → (old new : Outgoing) → (before now : Option (List ℕ)) → List OutLine → Type 0
SaysOn result old new before now more =
    (held : Option (List ℕ)) (lines : List OutLine) → HasSaid old held before lines →
    OnOk result (HasSaid new held now (lines ++ more)) × IfErr result (λ status. IsCut status held now (lines ++ more))

-- what a call makes of them that writes all that waits
abbrev pub WritesRest : Result (Unit {0}) Status → (old new : Outgoing) → (before now : Option (List ℕ)) → Type 0
WritesRest result old new before now =
    (held : Option (List ℕ)) (lines : List OutLine) → HasSaid old held before lines →
    OnOk result (HasSaid new held now lines) × OnOk result (AddsTo held (text_of lines) now) × IfErr result (λ status. IsCut status held now lines)

-- how a run ends that has said all its lines
abbrev pub Closes : Status → (held now : Option (List ℕ)) → List OutLine → Type 0
Closes Done held now lines = AddsTo held (text_of lines) now × (status_of lines ≡ Done)
Closes Refused held now lines = AddsTo held (text_of lines) now × (status_of lines ≡ Refused)
Closes WriteFault held now lines = AddsFront held (text_of lines) now
Closes Memory held now lines = AddsFront held (text_of lines) now
Closes _ held now lines = ⊥

-- how a run ends whose source met a fault behind these lines
abbrev pub Breaks : Status → (held now : Option (List ℕ)) → List OutLine → Type 0
Breaks ReadFault held now lines = AddsTo held (text_of lines) now
Breaks WriteFault held now lines = AddsFront held (text_of lines) now
Breaks Memory held now lines = AddsFront held (text_of lines) now
Breaks _ held now lines = ⊥
