-- What `explain` and `verify` write.
use Rattle.std.proofs.Common.{◌≡◌, ◌⊎◌, ℕ, List, Option, IsTrue, refl, sym, subst, inl, inr, take, drop}
use Rattle.std.proofs.lemmas.List.{take-append-drop}
use Rattle.px_io.specs.Flows.{AddsTo}
use Rattle.px_feed.specs.declared.status.Status.{Status}
use Rattle.px_feed.specs.declared.status.Status.TheVariants.{Done, Refused}
use Rattle.px_document.specs.Findings.{text, status}
use Rattle.px_document.specs.Outputs as outputs
use Rattle.px_document.specs.Outputs.{IsFound}
use Rattle.px_document.specs.declared.finding.Finding.{Finding}
use Rattle.xpush.specs.Runs.{Proved, WritesFront}
use Rattle.px_lines.specs.Served.{is_finished}
use Rattle.xpush.specs.Forms.{Explains, Verifies}
use Rattle.px_lines.specs.Fronts.{AddsFront}

-- what is found was written whole
pub proved : (finds : (bytes : List ℕ) → Finding → Type 0) (left after held held_after : Option (List ℕ)) (finding : Finding) (ended : Status) → IsFound finds left after finding →
    AddsTo held (text finding) held_after → ended ≡ status finding → Proved finds left after held held_after ended
proved finds left after held held_after finding ended found written e = record { finding = finding; is_found = found; written = written; ended = e }

-- where it was cut short, its front was written
pub cut_explained : (filter : List ℕ) (left after held held_after : Option (List ℕ)) (finding : Finding) → IsFound (outputs.Explains filter) left after finding →
    AddsFront held (text finding) held_after → WritesFront (Explains filter) left held held_after
cut_explained filter left after held held_after finding f front = record {
  bytes_written = take front.0 (text finding);
  written = front.1;
  is_front = λ bytes told. inr (text finding, drop front.0 (text finding), status finding, (finding, f.found bytes told, refl, refl), sym (take-append-drop front.0 (text finding)));
}

pub cut_verified : (filter : List ℕ) (left after held held_after : Option (List ℕ)) (finding : Finding) → IsFound (outputs.Verifies filter) left after finding →
    AddsFront held (text finding) held_after → WritesFront (Verifies filter) left held held_after
cut_verified filter left after held held_after finding f front = record {
  bytes_written = take front.0 (text finding);
  written = front.1;
  is_front = λ bytes told. inr (text finding, drop front.0 (text finding), status finding, (finding, f.found bytes told, refl, refl), sym (take-append-drop front.0 (text finding)));
}

-- a run that ends well or refused is finished
pub finishes : (ended : Status) → (ended ≡ Done) ⊎ (ended ≡ Refused) → IsTrue (is_finished ended)
finishes ended (inl e) = let P : Status → Type 0 = λ one. IsTrue (is_finished one) in subst P (sym e) refl
finishes ended (inr e) = let P : Status → Type 0 = λ one. IsTrue (is_finished one) in subst P (sym e) refl
