-- Bytes of which only a front is known, and what holds however they go on.
use Rattle.std.proofs.Common.{◌≡◌, ℕ, ◌+◌, ◌-◌, ◌<◌, ◌≤◌, true, List, [], ◌∷◌, ◌++◌, length, take, ◌⊎◌, inl, inr, refl, ap, sym, ◌∙◌, subst, Some, append_assoc, length-append, arith}
use Rattle.std.specs.List.{sum_by}
use Rattle.std.proofs.lemmas.Bool.{cases_lt}
use Rattle.std.proofs.lemmas.List.{take_all}
use Rattle.px_reader.specs.declared.event.Event.{Event}
use Rattle.px_reader.specs.declared.fault.DocKind.{DocKind}
use Rattle.px_reader.specs.declared.fault.DocKind.TheVariants.{TooDeep, TooManyAttributes, TooBig}
use Rattle.px_reader.specs.Lines.{Line, lines_of}
use Rattle.px_reader.specs.Spelling.{kinds}
use Rattle.px_reader.specs.Machine.{State, Before, accepts, runs, open_in, attributes_in}
use Rattle.px_reader.specs.Judged.{Judged}
use Rattle.px_reader.specs.Verdicts.{IsFaulty, Judges, Shows, depth, attributes_behind}
use Rattle.px_reader.proofs.MachineLaws as machine
use Rattle.px_reader.proofs.LineCuts.{begun_line}
use Rattle.px_reader.specs.Lines.{has_no_feed}
use Rattle.px_reader.proofs.Runs.{step_same}
use Rattle.px_reader.proofs.Depths.{depth_is, attributes_are}
use Rattle.px_reader.proofs.Judged.{judged_big}

-- The last of some lines shows no fault, so neither do all of them together.
all_shown : (lines : List (List ℕ)) (state : State) (given : List Event) → Judged lines state given → (kind : DocKind) → 0 < length lines →
    ((Shows lines (length lines - 1) kind → ⊥) × (take (length lines - 1 + 1) lines ≡ lines))
all_shown lines state given j kind some = (j.fine (length lines - 1) (omega arith) kind, take_all (length lines - 1 + 1) lines (omega arith))

at_most : (limit n : ℕ) → (limit < n → ⊥) → n ≤ limit
at_most limit n below = on (cases_lt limit n)
  where
    on : (limit < n) ⊎ (n ≤ limit) → n ≤ limit
    on (inl l) = absurd (below l)
    on (inr m) = m

-- lines that are fine are within the limit
pub judged_size : (lines : List (List ℕ)) (state : State) (given : List Event) → Judged lines state given → sum_by length lines ≤ 16_777_216
judged_size [] state given j = omega arith
judged_size (line ∷ lines) state given j =
    let s = all_shown (line ∷ lines) state given j TooBig (omega arith) in
    at_most 16_777_216 (sum_by length (line ∷ lines)) (λ l. s.0 (subst (λ ls. 16_777_216 < sum_by length ls) (sym s.1) l))

led_same : (lines : List Line) (state : State) (given : List Event) → runs Before lines ≡ Some (state, given) → lines ≡ [] → state ≡ Before
led_same lines state given e n =
    let f = subst (λ ls. runs Before ls ≡ Some (state, given)) n e in
    sym (step_same (Before, []) (state, given) f).0

pub judged_depth : (lines : List (List ℕ)) (state : State) (given : List Event) → Judged lines state given → open_in state ≤ 512
judged_depth [] state given j = rw (led_same [] state given j.led refl) (omega arith)
judged_depth (line ∷ lines) state given j =
    let s = all_shown (line ∷ lines) state given j TooDeep (omega arith) in
    let d = at_most 512 (depth (kinds (line ∷ lines))) (λ l. s.0 (subst (λ ls. 512 < depth (kinds ls)) (sym s.1) l)) in
    subst (λ n. n ≤ 512) (depth_is (kinds (line ∷ lines)) state given j.led) d

pub judged_attributes : (lines : List (List ℕ)) (state : State) (given : List Event) → Judged lines state given → attributes_in state ≤ 256
judged_attributes [] state given j = rw (led_same [] state given j.led refl) (omega arith)
judged_attributes (line ∷ lines) state given j =
    let s = all_shown (line ∷ lines) state given j TooManyAttributes (omega arith) in
    let d = at_most 256 (attributes_behind 0 (kinds (line ∷ lines))) (λ l. s.0 (subst (λ ls. 256 < attributes_behind 0 (kinds ls)) (sym s.1) l)) in
    subst (λ n. n ≤ 256) (attributes_are (kinds (line ∷ lines)) state given j.led) d

-- a line that is not ended yet, and is too much already
pub open_big : (lines : List (List ℕ)) (state : State) (given : List Event) (line more : List ℕ) → Judged lines state given → has_no_feed line ≡ true →
    16_777_216 < sum_by length lines + length line → Judges (lines ++ lines_of (line ++ more)) (IsFaulty (length lines + 1) TooBig)
open_big lines state given line more j n big =
    let size = judged_size lines state given j in
    let (tail, others, e) = begun_line line more n (omega arith) in
    let over : 16_777_216 < sum_by length lines + length (line ++ tail) = rw length-append (omega arith) in
    subst (λ ls. Judges (lines ++ ls) (IsFaulty (length lines + 1) TooBig)) (sym e) (judged_big lines state given (line ++ tail) others j over)

-- What is accepted runs through each of its fronts.
pub record Through (lines more : List Line) (state : State) (evs : List Event) : Type 0 where
  pub middle : State
  pub given : List Event
  pub rest : List Event
  pub led : runs state lines ≡ Some (middle, given)
  pub accepted : accepts middle more ≡ Some rest
  pub evs_are : evs ≡ given ++ rest

pub through : (lines more : List Line) (state : State) (evs : List Event) → accepts state (lines ++ more) ≡ Some evs → Through lines more state evs
through [] more state evs e = record { middle = state; given = []; rest = evs; led = refl; accepted = e; evs_are = refl }
through (line ∷ lines) more state evs e =
    let g = machine.goes state line (lines ++ more) evs e in
    let t = through lines more g.found.0 g.more g.accepted in
    record {
      middle = t.middle;
      given = g.found.1 ++ t.given;
      rest = t.rest;
      led = rw (g.steps, t.led) refl;
      accepted = t.accepted;
      evs_are = sym g.evs_are ∙ ap (λ es. g.found.1 ++ es) t.evs_are ∙ sym (append_assoc g.found.1 t.given t.rest);
    }
