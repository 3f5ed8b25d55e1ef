-- What one more line does to lines that have no fault, and the verdict where it ends.
use Rattle.std.proofs.Common.{◌≡◌, ℕ, zero, suc, ◌+◌, ◌<◌, ◌≤◌, List, [], ◌∷◌, ◌++◌, length, take, refl, ap, sym, ◌∙◌, subst, Option, Some, None, IsSome, IsUtf8, ◌⊎◌, inl, inr, append-nil, length-append, add-one, arith}
use Rattle.std.proofs.lemmas.Option.{same_Some}
use Rattle.std.specs.List.{slice_get, sum_by}
use Rattle.std.proofs.lemmas.List.{take-take, take_at, length_push}
use Rattle.std.proofs.lemmas.List.Sums.{sum_by_push}
use Rattle.px_text.specs.Nodes.{Root}
use Rattle.px_reader.specs.declared.event.Event.{Event}
use Rattle.px_reader.specs.declared.fault.DocKind.{DocKind}
use Rattle.px_reader.specs.declared.fault.DocKind.TheVariants.{NotHere, NotUtf8, LineLong, TooDeep, TooManyAttributes, TooBig, Truncated}
use Rattle.px_reader.specs.Lines.{Empty, line_of, without_end, solid}
use Rattle.px_reader.specs.Spelling.{Spells, kinds, events_of}
use Rattle.px_reader.specs.Machine.{State, Before, Attributes, Inside, After, step, reaches, accepts, runs, open_in, attributes_in}
use Rattle.px_reader.specs.Judged.{Judged}
use Rattle.px_reader.specs.Verdicts.{Begins, depth, attributes_behind, Shows, rank, IsFine, IsFaulty, IsTree, Judges}
use Rattle.px_reader.proofs.MachineLaws.{accepted_spells, spelt_accepted, reached}
use Rattle.px_reader.proofs.Begins.{begins_iff, kinds-append}
use Rattle.px_reader.proofs.LineCuts.{take_lines, take_next}
use Rattle.px_reader.proofs.Runs.{runs_one, runs-append, runs_reaches, reaches-append, accepts-append, solid_one}
use Rattle.px_reader.proofs.Depths.{depth_is, attributes_are}

slice_get-take : (lines : List (List ℕ)) (k : ℕ) → slice_get (take (suc k) lines) k ≡ slice_get lines k
slice_get-take [] k = refl
slice_get-take (line ∷ lines) zero = refl
slice_get-take (line ∷ lines) (suc k) = slice_get-take lines k

slice_get-at : (lines : List (List ℕ)) (line : List ℕ) (more : List (List ℕ)) → slice_get (lines ++ line ∷ more) (length lines) ≡ Some line
slice_get-at [] line more = refl
slice_get-at (first ∷ lines) line more = slice_get-at lines line more

same_line : (xs ys : List (List ℕ)) (k : ℕ) → take (k + 1) xs ≡ take (k + 1) ys → slice_get xs k ≡ slice_get ys k
same_line xs ys k e =
    let f : take (suc k) xs ≡ take (suc k) ys = rw add-one at e in
    sym (slice_get-take xs k) ∙ ap (λ ls. slice_get ls k) f ∙ slice_get-take ys k

same_front : (xs ys : List (List ℕ)) (k : ℕ) → take (k + 1) xs ≡ take (k + 1) ys → take k xs ≡ take k ys
same_front xs ys k e =
    let l : k ≤ k + 1 = omega arith in
    sym (take-take k (k + 1) xs l) ∙ ap (take k) e ∙ take-take k (k + 1) ys l

-- a line's faults hang on the lines through it
pub shows_same : (xs ys : List (List ℕ)) (k : ℕ) (kind : DocKind) → take (k + 1) xs ≡ take (k + 1) ys → Shows xs k kind → Shows ys k kind
shows_same xs ys k TooBig e s = subst (λ ls. 16_777_216 < sum_by length ls) e s
shows_same xs ys k LineLong e (line, at, long) = (line, sym (same_line xs ys k e) ∙ at, long)
shows_same xs ys k NotUtf8 e (line, at, bad) = (line, sym (same_line xs ys k e) ∙ at, bad)
shows_same xs ys k NotHere e (begun, ends) = (subst Begins (same_front xs ys k e) begun, λ b. ends (subst Begins (sym e) b))
shows_same xs ys k TooDeep e s = subst (λ ls. 512 < depth (kinds ls)) e s
shows_same xs ys k TooManyAttributes e s = subst (λ ls. 256 < attributes_behind 0 (kinds ls)) e s
shows_same xs ys k Truncated e s = s

-- The line behind the lines has this fault.
abbrev pub Breaks : List (List ℕ) → List ℕ → DocKind → Type 0
Breaks lines line TooBig = 16_777_216 < sum_by length lines + length line
Breaks lines line LineLong = 1_048_576 < length (without_end line)
Breaks lines line NotUtf8 = IsUtf8 line → ⊥
Breaks lines line NotHere = Begins lines × (Begins (lines ++ line ∷ []) → ⊥)
Breaks lines line TooDeep = 512 < depth (kinds (lines ++ line ∷ []))
Breaks lines line TooManyAttributes = 256 < attributes_behind 0 (kinds (lines ++ line ∷ []))
Breaks lines line Truncated = ⊥

pub breaks_shows : (lines : List (List ℕ)) (line : List ℕ) (more : List (List ℕ)) (kind : DocKind) →
    Breaks lines line kind → Shows (lines ++ line ∷ more) (length lines) kind
breaks_shows lines line more TooBig b =
    let sum = sum_by_push length lines line in
    rw take_next (rw sum b)
breaks_shows lines line more LineLong b = (line, slice_get-at lines line more, b)
breaks_shows lines line more NotUtf8 b = (line, slice_get-at lines line more, b)
breaks_shows lines line more NotHere (begun, ends) =
    (subst Begins (sym (take_at lines (line ∷ more) (length lines) refl)) begun, λ b. ends (subst Begins (take_next lines line more) b))
breaks_shows lines line more TooDeep b = rw take_next b
breaks_shows lines line more TooManyAttributes b = rw take_next b
breaks_shows lines line more Truncated b = b

pub shows_breaks : (lines : List (List ℕ)) (line : List ℕ) (more : List (List ℕ)) (kind : DocKind) →
    Shows (lines ++ line ∷ more) (length lines) kind → Breaks lines line kind
shows_breaks lines line more TooBig s =
    let t = subst (λ ls. 16_777_216 < sum_by length ls) (take_next lines line more) s in
    rw sum_by_push at t
shows_breaks lines line more LineLong (found, at, long) =
    subst (λ l. 1_048_576 < length (without_end l)) (sym (same_Some line found (sym (slice_get-at lines line more) ∙ at))) long
shows_breaks lines line more NotUtf8 (found, at, bad) =
    subst (λ l. IsUtf8 l → ⊥) (sym (same_Some line found (sym (slice_get-at lines line more) ∙ at))) bad
shows_breaks lines line more NotHere (begun, ends) =
    (subst Begins (take_at lines (line ∷ more) (length lines) refl) begun, λ b. ends (subst Begins (sym (take_next lines line more)) b))
shows_breaks lines line more TooDeep s = subst (λ ls. 512 < depth (kinds ls)) (take_next lines line more) s
shows_breaks lines line more TooManyAttributes s = subst (λ ls. 256 < attributes_behind 0 (kinds ls)) (take_next lines line more) s
shows_breaks lines line more Truncated s = s

-- lines that are fine stay so, whatever comes behind them
pub fine_behind : (lines more : List (List ℕ)) (k : ℕ) → k < length lines → IsFine lines k → IsFine (lines ++ more) k
fine_behind lines more k l fine kind s = fine kind (shows_same (lines ++ more) lines k kind (take_lines lines more (k + 1) (omega arith)) s)

fine_push : (lines : List (List ℕ)) (line : List ℕ) → ((k : ℕ) → k < length lines → IsFine lines k) → ((kind : DocKind) → Breaks lines line kind → ⊥) →
    (k : ℕ) → k < length (lines ++ line ∷ []) → IsFine (lines ++ line ∷ []) k
fine_push lines line fine none k l = on (place k (length lines) (rw length_push at l))
  where
    place : (k n : ℕ) → k < n + 1 → (k < n) ⊎ (k ≡ n)
    place k n l = grind arith

    on : (k < length lines) ⊎ (k ≡ length lines) → IsFine (lines ++ line ∷ []) k
    on (inl m) = fine_behind lines (line ∷ []) k m (fine k m)
    on (inr e) = λ kind s. none kind (shows_breaks lines line [] kind (subst (λ n. Shows (lines ++ line ∷ []) n kind) e s))

-- the line behind lines that are fine, with its first fault
pub judged_fault : (lines : List (List ℕ)) (line : List ℕ) (more : List (List ℕ)) (kind : DocKind) → ((k : ℕ) → k < length lines → IsFine lines k) →
    Breaks lines line kind → ((other : DocKind) → rank other < rank kind → Breaks lines line other → ⊥) →
    Judges (lines ++ line ∷ more) (IsFaulty (length lines + 1) kind)
judged_fault lines line more kind fine b first = by_kind kind (breaks_shows lines line more kind b) (λ other r s. first other r (shows_breaks lines line more other s))
  where
    inside : length lines < length (lines ++ line ∷ more)
    inside = rw length-append (omega arith)

    before : (j : ℕ) → j < length lines → IsFine (lines ++ line ∷ more) j
    before j l = fine_behind lines (line ∷ more) j l (fine j l)

    by_kind : (kind : DocKind) → Shows (lines ++ line ∷ more) (length lines) kind →
        ((other : DocKind) → rank other < rank kind → Shows (lines ++ line ∷ more) (length lines) other → ⊥) →
        Judges (lines ++ line ∷ more) (IsFaulty (length lines + 1) kind)
    by_kind TooBig s f = (length lines, refl, inside, before, s, f)
    by_kind LineLong s f = (length lines, refl, inside, before, s, f)
    by_kind NotUtf8 s f = (length lines, refl, inside, before, s, f)
    by_kind NotHere s f = (length lines, refl, inside, before, s, f)
    by_kind TooDeep s f = (length lines, refl, inside, before, s, f)
    by_kind TooManyAttributes s f = (length lines, refl, inside, before, s, f)
    by_kind Truncated s f = absurd s

some_begins : (lines : List (List ℕ)) (state : State) → reaches Before (kinds lines) ≡ Some state → Begins lines
some_begins lines state e = (begins_iff lines).1 (rw e refl)

led_begins : (lines : List (List ℕ)) (state : State) (given : List Event) → Judged lines state given → Begins lines
led_begins lines state given j = some_begins lines state (runs_reaches (kinds lines) Before state given j.led)

kinds_push : (lines : List (List ℕ)) (line : List ℕ) → (line_of (without_end line) ≡ Empty → ⊥) → kinds (lines ++ line ∷ []) ≡ kinds lines ++ line_of (without_end line) ∷ []
kinds_push lines line n = kinds-append lines (line ∷ []) ∙ ap (λ ls. kinds lines ++ ls) (solid_one (line_of (without_end line)) n)

kinds_empty : (lines : List (List ℕ)) (line : List ℕ) → line_of (without_end line) ≡ Empty → kinds (lines ++ line ∷ []) ≡ kinds lines
kinds_empty lines line e = kinds-append lines (line ∷ []) ∙ ap (λ l. kinds lines ++ solid (l ∷ [])) e ∙ append-nil (kinds lines)

-- a line that the machine takes
led_more : (lines : List (List ℕ)) (state : State) (given : List Event) (line : List ℕ) (new : State) (brought : List Event) → Judged lines state given →
    (line_of (without_end line) ≡ Empty → ⊥) → step state (line_of (without_end line)) ≡ Some (new, brought) →
    runs Before (kinds (lines ++ line ∷ [])) ≡ Some (new, given ++ brought)
led_more lines state given line new brought j n s =
    ap (runs Before) (kinds_push lines line n)
    ∙ runs-append (kinds lines) (line_of (without_end line) ∷ []) Before state new given brought j.led (runs_one state (line_of (without_end line)) (new, brought) s)

led_empty : (lines : List (List ℕ)) (state : State) (given : List Event) (line : List ℕ) → Judged lines state given → line_of (without_end line) ≡ Empty →
    runs Before (kinds (lines ++ line ∷ [])) ≡ Some (state, given)
led_empty lines state given line j e = ap (runs Before) (kinds_empty lines line e) ∙ j.led

-- a line that the machine does not take
ends_here : (lines : List (List ℕ)) (state : State) (given : List Event) (line : List ℕ) → Judged lines state given →
    (line_of (without_end line) ≡ Empty → ⊥) → step state (line_of (without_end line)) ≡ None → Begins (lines ++ line ∷ []) → ⊥
ends_here lines state given line j n s b =
    let r : reaches Before (kinds (lines ++ line ∷ [])) ≡ None =
    ap (reaches Before) (kinds_push lines line n)
    ∙ reaches-append (kinds lines) (line_of (without_end line) ∷ []) Before state (runs_reaches (kinds lines) Before state given j.led) ∙ rw s refl in
    let i = (begins_iff (lines ++ line ∷ [])).0 b in
    is_none (reaches Before (kinds (lines ++ line ∷ []))) r i
  where
    is_none : (o : Option State) → o ≡ None → IsSome o → ⊥
    is_none o e i = let f = subst IsSome e i in cc

-- no line has no fault
pub judged_none : Judged [] Before []
judged_none = record { fine = λ k l. absurd (omega arith); led = refl }

-- no fault of the line, where it leads to a state
no_fault : (lines : List (List ℕ)) (line : List ℕ) (new : State) (given : List Event) → runs Before (kinds (lines ++ line ∷ [])) ≡ Some (new, given) →
    sum_by length lines + length line ≤ 16_777_216 → length (without_end line) ≤ 1_048_576 → IsUtf8 line → open_in new ≤ 512 → attributes_in new ≤ 256 →
    (kind : DocKind) → Breaks lines line kind → ⊥
no_fault lines line new given led size long utf8 deep many TooBig b = omega arith
no_fault lines line new given led size long utf8 deep many LineLong b = omega arith
no_fault lines line new given led size long utf8 deep many NotUtf8 b = b utf8
no_fault lines line new given led size long utf8 deep many NotHere b = b.1 (some_begins (lines ++ line ∷ []) new (runs_reaches (kinds (lines ++ line ∷ [])) Before new given led))
no_fault lines line new given led size long utf8 deep many TooDeep b =
    over (depth (kinds (lines ++ line ∷ []))) (open_in new) (depth_is (kinds (lines ++ line ∷ [])) new given led) b deep
  where
    over : (d o : ℕ) → d ≡ o → 512 < d → o ≤ 512 → ⊥
    over d o e l m = omega arith
no_fault lines line new given led size long utf8 deep many TooManyAttributes b =
    over (attributes_behind 0 (kinds (lines ++ line ∷ []))) (attributes_in new) (attributes_are (kinds (lines ++ line ∷ [])) new given led) b many
  where
    over : (d o : ℕ) → d ≡ o → 256 < d → o ≤ 256 → ⊥
    over d o e l m = omega arith
no_fault lines line new given led size long utf8 deep many Truncated b = b

-- an empty line more
pub judged_empty : (lines : List (List ℕ)) (state : State) (given : List Event) (line : List ℕ) → Judged lines state given →
    sum_by length lines + length line ≤ 16_777_216 → length (without_end line) ≤ 1_048_576 → IsUtf8 line → line_of (without_end line) ≡ Empty →
    open_in state ≤ 512 → attributes_in state ≤ 256 → Judged (lines ++ line ∷ []) state given
judged_empty lines state given line j size long utf8 e deep many =
    let led = led_empty lines state given line j e in
    record { fine = fine_push lines line j.fine (no_fault lines line state given led size long utf8 deep many); led = led }

-- a line more that the machine takes
pub judged_more : (lines : List (List ℕ)) (state : State) (given : List Event) (line : List ℕ) (new : State) (brought : List Event) → Judged lines state given →
    sum_by length lines + length line ≤ 16_777_216 → length (without_end line) ≤ 1_048_576 → IsUtf8 line → (line_of (without_end line) ≡ Empty → ⊥) →
    step state (line_of (without_end line)) ≡ Some (new, brought) → open_in new ≤ 512 → attributes_in new ≤ 256 → Judged (lines ++ line ∷ []) new (given ++ brought)
judged_more lines state given line new brought j size long utf8 n s deep many =
    let led = led_more lines state given line new brought j n s in
    record { fine = fine_push lines line j.fine (no_fault lines line new (given ++ brought) led size long utf8 deep many); led = led }

-- no fault of a lower rank
none_below : (lines : List (List ℕ)) (line : List ℕ) (other : DocKind) (n : ℕ) → rank other < n →
    (0 < n → sum_by length lines + length line ≤ 16_777_216) → (1 < n → length (without_end line) ≤ 1_048_576) → (2 < n → IsUtf8 line) →
    (3 < n → Begins (lines ++ line ∷ [])) → (4 < n → depth (kinds (lines ++ line ∷ [])) ≤ 512) → n ≤ 5 → Breaks lines line other → ⊥
none_below lines line TooBig n r size long utf8 here deep top b = let l = size r in omega arith
none_below lines line LineLong n r size long utf8 here deep top b = let l = long r in omega arith
none_below lines line NotUtf8 n r size long utf8 here deep top b = b (utf8 r)
none_below lines line NotHere n r size long utf8 here deep top b = b.1 (here r)
none_below lines line TooDeep n r size long utf8 here deep top b = let l = deep r in below (depth (kinds (lines ++ line ∷ []))) l b
  where
    below : (d : ℕ) → d ≤ 512 → 512 < d → ⊥
    below d l m = omega arith
none_below lines line TooManyAttributes n r size long utf8 here deep top b = omega arith
none_below lines line Truncated n r size long utf8 here deep top b = b

pub judged_big : (lines : List (List ℕ)) (state : State) (given : List Event) (line : List ℕ) (more : List (List ℕ)) → Judged lines state given →
    16_777_216 < sum_by length lines + length line → Judges (lines ++ line ∷ more) (IsFaulty (length lines + 1) TooBig)
judged_big lines state given line more j big = judged_fault lines line more TooBig j.fine big (λ other r b. absurd (omega arith))

pub judged_long : (lines : List (List ℕ)) (state : State) (given : List Event) (line : List ℕ) (more : List (List ℕ)) → Judged lines state given →
    sum_by length lines + length line ≤ 16_777_216 → 1_048_576 < length (without_end line) → Judges (lines ++ line ∷ more) (IsFaulty (length lines + 1) LineLong)
judged_long lines state given line more j size long =
    judged_fault lines line more LineLong j.fine long
    (λ other r. none_below lines line other 1 r (λ _. size) (λ l. absurd (omega arith)) (λ l. absurd (omega arith)) (λ l. absurd (omega arith)) (λ l. absurd (omega arith)) (omega arith))

pub judged_not_utf8 : (lines : List (List ℕ)) (state : State) (given : List Event) (line : List ℕ) (more : List (List ℕ)) → Judged lines state given →
    sum_by length lines + length line ≤ 16_777_216 → length (without_end line) ≤ 1_048_576 → (IsUtf8 line → ⊥) → Judges (lines ++ line ∷ more) (IsFaulty (length lines + 1) NotUtf8)
judged_not_utf8 lines state given line more j size long bad =
    judged_fault lines line more NotUtf8 j.fine bad
    (λ other r. none_below lines line other 2 r (λ _. size) (λ _. long) (λ l. absurd (omega arith)) (λ l. absurd (omega arith)) (λ l. absurd (omega arith)) (omega arith))

pub judged_not_here : (lines : List (List ℕ)) (state : State) (given : List Event) (line : List ℕ) (more : List (List ℕ)) → Judged lines state given →
    sum_by length lines + length line ≤ 16_777_216 → length (without_end line) ≤ 1_048_576 → IsUtf8 line → (line_of (without_end line) ≡ Empty → ⊥) →
    step state (line_of (without_end line)) ≡ None → Judges (lines ++ line ∷ more) (IsFaulty (length lines + 1) NotHere)
judged_not_here lines state given line more j size long utf8 n s =
    judged_fault lines line more NotHere j.fine (led_begins lines state given j, ends_here lines state given line j n s)
    (λ other r. none_below lines line other 3 r (λ _. size) (λ _. long) (λ _. utf8) (λ l. absurd (omega arith)) (λ l. absurd (omega arith)) (omega arith))

over : (limit d o : ℕ) → d ≡ o → limit < o → limit < d
over limit d o e l = omega arith

within : (limit d o : ℕ) → d ≡ o → o ≤ limit → d ≤ limit
within limit d o e l = omega arith

pub judged_deep : (lines : List (List ℕ)) (state : State) (given : List Event) (line : List ℕ) (more : List (List ℕ)) (new : State) (brought : List Event) → Judged lines state given →
    sum_by length lines + length line ≤ 16_777_216 → length (without_end line) ≤ 1_048_576 → IsUtf8 line → (line_of (without_end line) ≡ Empty → ⊥) →
    step state (line_of (without_end line)) ≡ Some (new, brought) → 512 < open_in new → Judges (lines ++ line ∷ more) (IsFaulty (length lines + 1) TooDeep)
judged_deep lines state given line more new brought j size long utf8 n s deep =
    let led = led_more lines state given line new brought j n s in
    let whole = kinds (lines ++ line ∷ []) in
    let here = some_begins (lines ++ line ∷ []) new (runs_reaches whole Before new (given ++ brought) led) in
    judged_fault lines line more TooDeep j.fine (over 512 (depth whole) (open_in new) (depth_is whole new (given ++ brought) led) deep)
    (λ other r. none_below lines line other 4 r (λ _. size) (λ _. long) (λ _. utf8) (λ _. here) (λ l. absurd (omega arith)) (omega arith))

pub judged_many : (lines : List (List ℕ)) (state : State) (given : List Event) (line : List ℕ) (more : List (List ℕ)) (new : State) (brought : List Event) → Judged lines state given →
    sum_by length lines + length line ≤ 16_777_216 → length (without_end line) ≤ 1_048_576 → IsUtf8 line → (line_of (without_end line) ≡ Empty → ⊥) →
    step state (line_of (without_end line)) ≡ Some (new, brought) → open_in new ≤ 512 → 256 < attributes_in new → Judges (lines ++ line ∷ more) (IsFaulty (length lines + 1) TooManyAttributes)
judged_many lines state given line more new brought j size long utf8 n s deep many =
    let led = led_more lines state given line new brought j n s in
    let whole = kinds (lines ++ line ∷ []) in
    let here = some_begins (lines ++ line ∷ []) new (runs_reaches whole Before new (given ++ brought) led) in
    let depth_ok = within 512 (depth whole) (open_in new) (depth_is whole new (given ++ brought) led) deep in
    judged_fault lines line more TooManyAttributes j.fine (over 256 (attributes_behind 0 whole) (attributes_in new) (attributes_are whole new (given ++ brought) led) many)
    (λ other r. none_below lines line other 5 r (λ _. size) (λ _. long) (λ _. utf8) (λ _. here) (λ _. depth_ok) (omega arith))

-- the document has ended too early
pub judged_truncated : (lines : List (List ℕ)) (state : State) (given : List Event) → Judged lines state given → (state ≡ After → ⊥) → Judges lines (IsFaulty (length lines) Truncated)
judged_truncated lines state given j early = (j.fine, none, refl)
  where
    accepted : (state : State) (evs : List Event) → accepts state [] ≡ Some evs → state ≡ After
    accepted Before evs e = absurd (cc)
    accepted (Attributes names name outer) evs e = absurd (cc)
    accepted (Inside text name outer) evs e = absurd (cc)
    accepted After evs e = refl

    none : (root : Root) → Spells lines root → ⊥
    none root d =
        let a = spelt_accepted (kinds lines) root d in
        let r = reached (kinds lines) [] Before (events_of root) (rw append-nil a) in
        let same : r.0 ≡ state = same_Some r.0 state (sym r.2 ∙ runs_reaches (kinds lines) Before state given j.led) in
        early (sym same ∙ accepted r.0 r.1 r.3)

-- the document has ended
pub judged_tree : (lines : List (List ℕ)) (given : List Event) → Judged lines After given → (root : Root) × (events_of root ≡ given) × Judges lines (IsTree root)
judged_tree lines given j =
    let a = accepts-append (kinds lines) [] Before After given [] j.led refl in
    let b : accepts Before (kinds lines) ≡ Some given = ap (accepts Before) (sym (append-nil (kinds lines))) ∙ a ∙ ap (λ (evs : List Event). Some evs) (append-nil given) in
    let t = accepted_spells (kinds lines) given b in
    (t.0, sym t.2, (j.fine, t.1))
