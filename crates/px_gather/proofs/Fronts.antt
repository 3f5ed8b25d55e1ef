-- Lines that are said one behind the other.
use Rattle.std.proofs.Common.{◌≡◌, ℕ, ◌+◌, ◌<◌, List, [], ◌∷◌, ◌++◌, length, take, drop, get_or, Option, ap, sym, ◌∙◌, subst, append_assoc}
use Rattle.std.proofs.lemmas.Grind.{flat_map-append}
use Rattle.std.proofs.lemmas.List.{take-append-drop, take_more}
use Rattle.std.proofs.Math.Seq.{take-append_seam}
use Rattle.px_io.specs.Flows.{AddsTo}
use Rattle.px_feed.specs.declared.line.OutLine.{OutLine}
use Rattle.px_feed.specs.declared.status.Status.{Status}
use Rattle.px_feed.specs.Lines.{line_text}
use Rattle.px_feed.specs.Outputs.{text_of}
use Rattle.px_lines.specs.Fronts.{AddsFront}
use Rattle.px_lines.specs.Waiting.{IsCut}

-- a front of a piece is one of whatever begins with it
pub longer_front : (held now : Option (List ℕ)) (piece more : List ℕ) → AddsFront held piece now → AddsFront held (piece ++ more) now
longer_front held now piece more front =
    let part = take front.0 piece in
    let rest = drop front.0 piece in
    let whole : piece ++ more ≡ part ++ (rest ++ more) = ap (λ (p : List ℕ). p ++ more) (sym (take-append-drop front.0 piece)) ∙ append_assoc part rest more in
    let P : List ℕ → Type 0 = λ written. AddsTo held written now in
    (length part, subst P (sym (ap (take (length part)) whole ∙ take-append_seam part (rest ++ more))) front.1)

-- what was cut short at some lines was cut short at more
pub cut_longer : (status : Status) (held now : Option (List ℕ)) (lines more : List OutLine) → IsCut status held now lines → IsCut status held now (lines ++ more)
cut_longer status held now lines more cut =
    let P : List ℕ → Type 0 = λ text. AddsFront held text now in
    (cut.0, subst P (sym (flat_map-append line_text lines more)) (longer_front held now (text_of lines) (text_of more) cut.1))

-- the lines up to one of them, and those behind it
up_to : (lines : List OutLine) (i : ℕ) (line : OutLine) → i < length lines → line ≡ get_or lines i line → (take i lines ++ line ∷ []) ++ drop (i + 1) lines ≡ lines
up_to lines i line within is =
    let at = ap (λ (l : OutLine). (take i lines ++ l ∷ []) ++ drop (i + 1) lines) is in
    at ∙ ap (λ (front : List OutLine). front ++ drop (i + 1) lines) (sym (take_more lines i line within)) ∙ take-append-drop (i + 1) lines

-- what was cut short at one of the lines was cut short at all
pub cut_at : (status : Status) (held now : Option (List ℕ)) (before lines : List OutLine) (i : ℕ) (line : OutLine) → i < length lines → line ≡ get_or lines i line →
    IsCut status held now ((before ++ take i lines) ++ line ∷ []) → IsCut status held now (before ++ lines)
cut_at status held now before lines i line within is cut =
    let front = take i lines in
    let rest = drop (i + 1) lines in
    let whole : ((before ++ front) ++ line ∷ []) ++ rest ≡ before ++ lines =
    ap (λ (ls : List OutLine). ls ++ rest) (append_assoc before front (line ∷ [])) ∙ append_assoc before (front ++ line ∷ []) rest
    ∙ ap (λ (ls : List OutLine). before ++ ls) (up_to lines i line within is) in
    let P : List OutLine → Type 0 = λ ls. IsCut status held now ls in
    subst P whole (cut_longer status held now ((before ++ front) ++ line ∷ []) rest cut)
