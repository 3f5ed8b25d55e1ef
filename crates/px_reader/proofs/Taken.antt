-- The verdict behind a line that the machine takes or refuses.
use Rattle.std.proofs.Common.{◌≡◌, ℕ, ◌+◌, ◌<◌, ◌≤◌, ◌⊎◌, inl, inr, List, [], ◌∷◌, ◌++◌, length, refl, ap, sym, ◌∙◌, subst, Some, None, append-nil, cond, arith}
use Rattle.std.specs.List.{sum_by}
use Rattle.px_reader.specs.declared.event.Event.{Event}
use Rattle.px_reader.specs.declared.fault.DocKind.{DocKind}
use Rattle.px_reader.specs.declared.fault.DocKind.TheVariants.{NotHere, NotUtf8, LineLong, TooDeep, TooManyAttributes, TooBig, Truncated}
use Rattle.px_reader.specs.declared.fault.LineFault.TheVariants.{Kind}
use Rattle.px_reader.specs.Lines.{Line, Opens, Closes, Gives, Says, Passed, Empty, Odd, line_of, without_end}
use Rattle.px_reader.specs.Machine.{State, Before, Attributes, Inside, After, Step, step, open_in, attributes_in}
use Rattle.px_reader.specs.States.{line_step, HasRoom, IsFit, Bars}
use Rattle.px_reader.specs.Judged.{Judged}
use Rattle.px_reader.specs.Verdicts.{opens, closes, attributes_behind, IsFaulty, Judges}
use Rattle.px_reader.proofs.Runs.{step_same}
use Rattle.px_reader.proofs.Depths.{step_opened, step_gives}
use Rattle.px_reader.proofs.Judged.{judged_empty, judged_more, judged_long, judged_not_utf8, judged_not_here, judged_deep, judged_many}
use Rattle.px_reader.proofs.Pieces.{judged_depth, judged_attributes}

step_empty : (state : State) → step state Empty ≡ None
step_empty Before = refl
step_empty (Attributes names name outer) = refl
step_empty (Inside text name outer) = refl
step_empty After = refl

step_not_empty : (state : State) (line : Line) (found : Step) → step state line ≡ Some found → line ≡ Empty → ⊥
step_not_empty state line found s e = let f : None ≡ Some found = sym (step_empty state) ∙ ap (step state) (sym e) ∙ s in absurd (cc)

step_or_empty : (state : State) (line : Line) (found : Step) → line_step state line ≡ Some found →
    ((line ≡ Empty) × (state ≡ found.0) × ([] ≡ found.1)) ⊎ ((line ≡ Empty → ⊥) × (step state line ≡ Some found))
step_or_empty state (Opens name) found s = inr (step_not_empty state (Opens name) found s, s)
step_or_empty state (Closes name) found s = inr (step_not_empty state (Closes name) found s, s)
step_or_empty state (Gives name value) found s = inr (step_not_empty state (Gives name value) found s, s)
step_or_empty state (Says text) found s = inr (step_not_empty state (Says text) found s, s)
step_or_empty state Passed found s = inr (step_not_empty state Passed found s, s)
step_or_empty state Empty found s = let p = step_same (state, []) found s in inl (refl, p.0, p.1)
step_or_empty state Odd found s = inr (step_not_empty state Odd found s, s)

no_step : (state : State) (line : Line) → line_step state line ≡ None → (line ≡ Empty → ⊥) × (step state line ≡ None)
no_step state (Opens name) s = (λ e. absurd (cc), s)
no_step state (Closes name) s = (λ e. absurd (cc), s)
no_step state (Gives name value) s = (λ e. absurd (cc), s)
no_step state (Says text) s = (λ e. absurd (cc), s)
no_step state Passed s = (λ e. absurd (cc), s)
no_step state Empty s = absurd (cc)
no_step state Odd s = (λ e. absurd (cc), s)

-- where there is room for a line, its step keeps depth and attributes within their limits
pub step_limits : (state : State) (line : Line) (new : State) (brought : List Event) → step state line ≡ Some (new, brought) → HasRoom state line →
    open_in state ≤ 512 → attributes_in state ≤ 256 → (open_in new ≤ 512) × (attributes_in new ≤ 256)
step_limits state line new brought s room d a = by_line line (step_opened state line (new, brought) s) (step_gives state line [] (new, brought) s) room
  where
    by_line : (line : Line) → cond (opens line) 1 0 + open_in state ≡ cond (closes line) 1 0 + open_in new →
        attributes_behind (attributes_in state) (line ∷ []) ≡ attributes_in new → HasRoom state line → (open_in new ≤ 512) × (attributes_in new ≤ 256)
    by_line (Opens name) o g r = (omega arith, omega arith)
    by_line (Closes name) o g r = (omega arith, omega arith)
    by_line (Gives name value) o g r = (omega arith, omega arith)
    by_line (Says text) o g r = (omega arith, omega arith)
    by_line Passed o g r = (omega arith, omega arith)
    by_line Empty o g r = (omega arith, omega arith)
    by_line Odd o g r = (omega arith, omega arith)

-- too many attributes come with an attribute, which opens nothing
many_kept : (state : State) (line : Line) (found : Step) → step state line ≡ Some found → open_in state ≤ 512 → 256 < attributes_in found.0 → open_in found.0 ≤ 512
many_kept state line found s d many = by_line line (step_opened state line found s) (step_gives state line [] found s)
  where
    by_line : (line : Line) → cond (opens line) 1 0 + open_in state ≡ cond (closes line) 1 0 + open_in found.0 →
        attributes_behind (attributes_in state) (line ∷ []) ≡ attributes_in found.0 → open_in found.0 ≤ 512
    by_line (Opens name) o g = omega arith
    by_line (Closes name) o g = omega arith
    by_line (Gives name value) o g = omega arith
    by_line (Says text) o g = omega arith
    by_line Passed o g = omega arith
    by_line Empty o g = omega arith
    by_line Odd o g = omega arith

-- a line that is taken, behind lines without a fault
pub line_taken : (lines : List (List ℕ)) (state : State) (given : List Event) (line : List ℕ) (new : State) (brought : List Event) → Judged lines state given →
    sum_by length lines + length line ≤ 16_777_216 → IsFit line → HasRoom state (line_of (without_end line)) → line_step state (line_of (without_end line)) ≡ Some (new, brought) →
    Judged (lines ++ line ∷ []) new (given ++ brought)
line_taken lines state given line new brought j size (long, utf8) room s = on (step_or_empty state (line_of (without_end line)) (new, brought) s)
  where
    d : open_in state ≤ 512
    d = judged_depth lines state given j

    a : attributes_in state ≤ 256
    a = judged_attributes lines state given j

    on : ((line_of (without_end line) ≡ Empty) × (state ≡ new) × ([] ≡ brought)) ⊎ ((line_of (without_end line) ≡ Empty → ⊥) × (step state (line_of (without_end line)) ≡ Some (new, brought))) →
        Judged (lines ++ line ∷ []) new (given ++ brought)
    on (inl (empty, same, none)) =
        let k = judged_empty lines state given line j size long utf8 empty d a in
        let m = subst (λ s. Judged (lines ++ line ∷ []) s given) same k in
        subst (λ es. Judged (lines ++ line ∷ []) new es) (sym (append-nil given) ∙ ap (λ es. given ++ es) none) m
    on (inr (n, steps)) =
        let k = step_limits state (line_of (without_end line)) new brought steps room d a in
        judged_more lines state given line new brought j size long utf8 n steps k.0 k.1

-- a line that is barred, behind lines without a fault
pub line_barred : (lines : List (List ℕ)) (state : State) (given : List Event) (line : List ℕ) (more : List (List ℕ)) (kind : DocKind) → Judged lines state given →
    sum_by length lines + length line ≤ 16_777_216 → Bars state line (Kind kind) → Judges (lines ++ line ∷ more) (IsFaulty (length lines + 1) kind)
line_barred lines state given line more LineLong j size long = judged_long lines state given line more j size long
line_barred lines state given line more NotUtf8 j size (long, bad) = judged_not_utf8 lines state given line more j size long bad
line_barred lines state given line more NotHere j size ((long, utf8), r) =
    let n = no_step state (line_of (without_end line)) r in judged_not_here lines state given line more j size long utf8 n.0 n.1
line_barred lines state given line more TooDeep j size ((long, utf8), (found, s, d)) =
    judged_deep lines state given line more found.0 found.1 j size long utf8 (step_not_empty state (line_of (without_end line)) found s) s d
line_barred lines state given line more TooManyAttributes j size ((long, utf8), (found, s, m)) =
    judged_many lines state given line more found.0 found.1 j size long utf8 (step_not_empty state (line_of (without_end line)) found s) s
    (many_kept state (line_of (without_end line)) found s (judged_depth lines state given j) m) m
line_barred lines state given line more TooBig j size r = absurd r
line_barred lines state given line more Truncated j size r = absurd r
