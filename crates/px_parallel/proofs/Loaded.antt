-- The line of the sums, whole or cut short.
use Rattle.std.proofs.Common.{◌≡◌, ℕ, inr, List, take, drop, Option, refl, sym}
use Rattle.std.proofs.lemmas.List.{take-append-drop}
use Rattle.px_io.specs.Flows.{AddsTo}
use Rattle.px_feed.specs.declared.status.Status.{Status}
use Rattle.px_feed.specs.declared.status.Status.TheVariants.{Done}
use Rattle.px_feed.specs.Generator.{feed}
use Rattle.px_lines.specs.Fronts.{AddsFront}
use Rattle.px_parallel.specs.declared.loading.Generated.{Generated}
use Rattle.px_parallel.specs.declared.sums.Sums.{Sums}
use Rattle.px_parallel.specs.Sums.{AreSumsOf, Loaded, LoadFront, OutLoad, load_text}

module _ (load : Generated) (sums : Sums) (are : AreSumsOf (feed load.seed load.filters load.documents) sums) where
  out : OutLoad load.seed load.filters load.documents (load_text load.filters load.documents sums.matches sums.sum)
  out = record { sums = sums; are_sums = are; written = refl }

  pub loaded : (held after : Option (List ℕ)) (status : Status) → AddsTo held (load_text load.filters load.documents sums.matches sums.sum) after →
      status ≡ Done → Loaded load.seed load.filters load.documents held after status
  loaded held after status added done = record { text = load_text load.filters load.documents sums.matches sums.sum; is_for = out; written = added; ended = done }

  pub load_front : (held after : Option (List ℕ)) → AddsFront held (load_text load.filters load.documents sums.matches sums.sum) after →
      LoadFront load.seed load.filters load.documents held after
  load_front held after front =
      let text = load_text load.filters load.documents sums.matches sums.sum in
      record {
        bytes_written = take front.0 text;
        written = front.1;
        is_front = inr (text, drop front.0 text, out, sym (take-append-drop front.0 text));
      }
