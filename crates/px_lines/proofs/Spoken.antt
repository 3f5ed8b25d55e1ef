-- Lines that are said one behind the other.
use Rattle.std.proofs.Common.{◌≡◌, ℕ, ◌+◌, false, List, [], ◌++◌, length, take, Option, IsTrue, ap, sym, ◌∙◌, subst, append_assoc, append-nil}
use Rattle.std.proofs.lemmas.Grind.{flat_map-append}
use Rattle.std.proofs.Math.Seq.{take-append-add, take-append_seam}
use Rattle.px_io.specs.Flows.{AddsTo}
use Rattle.px_io.proofs.Flowing.{adds_both}
use Rattle.px_feed.specs.declared.line.OutLine.{OutLine}
use Rattle.px_feed.specs.declared.status.Status.{Status}
use Rattle.px_feed.specs.declared.status.Status.TheVariants.{Done, Refused, Usage, ReadFault, WriteFault, Memory}
use Rattle.px_feed.specs.Lines.{line_text}
use Rattle.px_feed.specs.Outputs.{text_of}
use Rattle.px_lines.specs.declared.outgoing.Outgoing.{Outgoing}
use Rattle.px_lines.specs.Fronts.{AddsFront}
use Rattle.px_lines.specs.Waiting.{HasSaid, IsCut, Closes, Breaks}

not_true : IsTrue false → ⊥
not_true t = absurd (cc)

-- what is written is a front of these lines and those behind them
pub written_so_far : (outgoing : Outgoing) (held now : Option (List ℕ)) (lines more : List OutLine) → (s : HasSaid outgoing held now lines) →
    AddsFront held (text_of (lines ++ more)) now
written_so_far outgoing held now lines more s =
    let whole : s.written ++ (outgoing.pending.items ++ text_of more) ≡ text_of (lines ++ more) =
    sym (append_assoc s.written outgoing.pending.items (text_of more)) ∙ ap (λ front. front ++ text_of more) s.waits ∙ sym (flat_map-append line_text lines more) in
    let front = take-append_seam s.written (outgoing.pending.items ++ text_of more) in
    let P : List ℕ → Type 0 = λ piece. AddsTo held piece now in
    (length s.written, subst P (sym front ∙ ap (take (length s.written)) whole) s.added)

pub said_front : (outgoing : Outgoing) (held now : Option (List ℕ)) (lines : List OutLine) → HasSaid outgoing held now lines → AddsFront held (text_of lines) now
said_front outgoing held now lines s =
    let P : List OutLine → Type 0 = λ ls. AddsFront held (text_of ls) now in subst P (append-nil lines) (written_so_far outgoing held now lines [] s)

-- a front of what waits, behind what is written
pub written_front : (outgoing : Outgoing) (held middle now : Option (List ℕ)) (lines : List OutLine) → (s : HasSaid outgoing held middle lines) →
    AddsFront middle outgoing.pending.items now → AddsFront held (text_of lines) now
written_front outgoing held middle now lines s front =
    let both = adds_both held middle now s.written (take front.0 outgoing.pending.items) s.added front.1 in
    let P : List ℕ → Type 0 = λ piece. AddsTo held piece now in
    let joined = sym (take-append-add s.written outgoing.pending.items front.0) ∙ ap (take (length s.written + front.0)) s.waits in
    (length s.written + front.0, subst P joined both)

-- all that waits, behind what is written
pub written_all : (outgoing : Outgoing) (held middle now : Option (List ℕ)) (lines : List OutLine) → (s : HasSaid outgoing held middle lines) →
    AddsTo middle outgoing.pending.items now → AddsTo held (text_of lines) now
written_all outgoing held middle now lines s added =
    let P : List ℕ → Type 0 = λ piece. AddsTo held piece now in
    subst P s.waits (adds_both held middle now s.written outgoing.pending.items s.added added)

-- nothing waits any more
pub said_all : (old new : Outgoing) (held middle now : Option (List ℕ)) (lines : List OutLine) → (s : HasSaid old held middle lines) →
    AddsTo middle old.pending.items now → new.pending.items ≡ [] → new.refused ≡ old.refused → HasSaid new held now lines
said_all old new held middle now lines s added empty same = record {
  written = s.written ++ old.pending.items;
  added = adds_both held middle now s.written old.pending.items s.added added;
  waits = ap (λ rest. (s.written ++ old.pending.items) ++ rest) empty ∙ append-nil (s.written ++ old.pending.items) ∙ s.waits;
  refused = same ∙ s.refused;
}

-- a run that was cut short, at its end and behind a read fault
pub cut_closes : (status : Status) (held now : Option (List ℕ)) (lines : List OutLine) → IsCut status held now lines → Closes status held now lines
cut_closes Done held now lines cut = absurd (not_true cut.0)
cut_closes Refused held now lines cut = absurd (not_true cut.0)
cut_closes Usage held now lines cut = absurd (not_true cut.0)
cut_closes ReadFault held now lines cut = absurd (not_true cut.0)
cut_closes WriteFault held now lines cut = cut.1
cut_closes Memory held now lines cut = cut.1

pub cut_breaks : (status : Status) (held now : Option (List ℕ)) (lines : List OutLine) → IsCut status held now lines → Breaks status held now lines
cut_breaks Done held now lines cut = absurd (not_true cut.0)
cut_breaks Refused held now lines cut = absurd (not_true cut.0)
cut_breaks Usage held now lines cut = absurd (not_true cut.0)
cut_breaks ReadFault held now lines cut = absurd (not_true cut.0)
cut_breaks WriteFault held now lines cut = cut.1
cut_breaks Memory held now lines cut = cut.1
