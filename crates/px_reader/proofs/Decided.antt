-- Every document has a verdict.
use Rattle.std.proofs.Common.{◌≡◌, ℕ, ◌+◌, ◌<◌, ◌≤◌, ◌⊎◌, inl, inr, Bool, true, false, List, [], ◌∷◌, ◌++◌, length, refl, sym, ◌∙◌, subst, Option, Some, None, IsUtf8, append_assoc, append-nil}
use Rattle.std.specs.List.{sum_by}
use Rattle.std.specs.Str.{is_utf8}
use Rattle.std.proofs.lemmas.Bool.{cases_lt}
use Rattle.std.proofs.lemmas.Str.{IsUtf8-from_is_utf8, is_utf8-from_IsUtf8}
use Rattle.px_reader.specs.declared.event.Event.{Event}
use Rattle.px_reader.specs.declared.fault.DocKind.TheVariants.{NotHere, NotUtf8, LineLong, TooDeep, TooManyAttributes, TooBig, Truncated}
use Rattle.px_reader.specs.Lines.{Line, Opens, Closes, Gives, Says, Passed, Empty, Odd, line_of, without_end, lines_of}
use Rattle.px_reader.specs.Machine.{State, Before, Attributes, Inside, After, Step, step, open_in, attributes_in}
use Rattle.px_reader.specs.Judged.{Judged}
use Rattle.px_reader.specs.Verdicts.{Verdict, IsFaulty, IsTree, Judges, HasVerdict}
use Rattle.px_reader.proofs.Judged.{judged_none, judged_empty, judged_more, judged_big, judged_long, judged_not_utf8, judged_not_here, judged_deep, judged_many, judged_truncated, judged_tree}
use Rattle.px_reader.proofs.Pieces.{judged_depth, judged_attributes}

abbrev pub HasOne : List (List ℕ) → Type 0
HasOne lines = (verdict : Verdict) × Judges lines verdict

empty_or_not : (line : Line) → (line ≡ Empty) ⊎ (line ≡ Empty → ⊥)
empty_or_not (Opens name) = inr (λ e. absurd (cc))
empty_or_not (Closes name) = inr (λ e. absurd (cc))
empty_or_not (Gives name value) = inr (λ e. absurd (cc))
empty_or_not (Says text) = inr (λ e. absurd (cc))
empty_or_not Passed = inr (λ e. absurd (cc))
empty_or_not Empty = inl refl
empty_or_not Odd = inr (λ e. absurd (cc))

pub utf8_or_not : (line : List ℕ) → IsUtf8 line ⊎ (IsUtf8 line → ⊥)
utf8_or_not line = on (is_utf8 line) refl
  where
    on : (t : Bool) → is_utf8 line ≡ t → IsUtf8 line ⊎ (IsUtf8 line → ⊥)
    on true e = inl (IsUtf8-from_is_utf8 line e)
    on false e = inr (λ u. absurd (let f : false ≡ true = sym e ∙ is_utf8-from_IsUtf8 line u in cc))

ended : (lines : List (List ℕ)) (state : State) (given : List Event) → Judged lines state given → HasOne lines
ended lines Before given j = (IsFaulty (length lines) Truncated, judged_truncated lines Before given j (λ e. absurd (cc)))
ended lines (Attributes names name outer) given j = (IsFaulty (length lines) Truncated, judged_truncated lines (Attributes names name outer) given j (λ e. absurd (cc)))
ended lines (Inside text name outer) given j = (IsFaulty (length lines) Truncated, judged_truncated lines (Inside text name outer) given j (λ e. absurd (cc)))
ended lines After given j = let t = judged_tree lines given j in (IsTree t.0, t.2)

-- what comes of a line that the machine is asked of
stepped : (lines : List (List ℕ)) (state : State) (given : List Event) (line : List ℕ) (more : List (List ℕ)) → Judged lines state given →
    sum_by length lines + length line ≤ 16_777_216 → length (without_end line) ≤ 1_048_576 → IsUtf8 line → (line_of (without_end line) ≡ Empty → ⊥) →
    ((new : State) (all : List Event) → Judged (lines ++ line ∷ []) new all → HasOne (lines ++ line ∷ more)) → HasOne (lines ++ line ∷ more)
stepped lines state given line more j size long utf8 n next = on (step state (line_of (without_end line))) refl
  where
    many : (new : State) (brought : List Event) → step state (line_of (without_end line)) ≡ Some (new, brought) → open_in new ≤ 512 →
        (256 < attributes_in new) ⊎ (attributes_in new ≤ 256) → HasOne (lines ++ line ∷ more)
    many new brought s d (inl l) = (IsFaulty (length lines + 1) TooManyAttributes, judged_many lines state given line more new brought j size long utf8 n s d l)
    many new brought s d (inr a) = next new (given ++ brought) (judged_more lines state given line new brought j size long utf8 n s d a)

    deep : (new : State) (brought : List Event) → step state (line_of (without_end line)) ≡ Some (new, brought) →
        (512 < open_in new) ⊎ (open_in new ≤ 512) → HasOne (lines ++ line ∷ more)
    deep new brought s (inl l) = (IsFaulty (length lines + 1) TooDeep, judged_deep lines state given line more new brought j size long utf8 n s l)
    deep new brought s (inr d) = many new brought s d (cases_lt 256 (attributes_in new))

    on : (s : Option Step) → step state (line_of (without_end line)) ≡ s → HasOne (lines ++ line ∷ more)
    on None s = (IsFaulty (length lines + 1) NotHere, judged_not_here lines state given line more j size long utf8 n s)
    on (Some found) s = deep found.0 found.1 s (cases_lt 512 (open_in found.0))

-- what comes of a line
judged_next : (lines : List (List ℕ)) (state : State) (given : List Event) (line : List ℕ) (more : List (List ℕ)) → Judged lines state given →
    ((new : State) (all : List Event) → Judged (lines ++ line ∷ []) new all → HasOne (lines ++ line ∷ more)) → HasOne (lines ++ line ∷ more)
judged_next lines state given line more j next = big (cases_lt 16_777_216 (sum_by length lines + length line))
  where
    kind : sum_by length lines + length line ≤ 16_777_216 → length (without_end line) ≤ 1_048_576 → IsUtf8 line →
        (line_of (without_end line) ≡ Empty) ⊎ (line_of (without_end line) ≡ Empty → ⊥) → HasOne (lines ++ line ∷ more)
    kind size long utf8 (inl e) = next state given (judged_empty lines state given line j size long utf8 e (judged_depth lines state given j) (judged_attributes lines state given j))
    kind size long utf8 (inr n) = stepped lines state given line more j size long utf8 n next

    utf8 : sum_by length lines + length line ≤ 16_777_216 → length (without_end line) ≤ 1_048_576 → IsUtf8 line ⊎ (IsUtf8 line → ⊥) → HasOne (lines ++ line ∷ more)
    utf8 size long (inl u) = kind size long u (empty_or_not (line_of (without_end line)))
    utf8 size long (inr bad) = (IsFaulty (length lines + 1) NotUtf8, judged_not_utf8 lines state given line more j size long bad)

    long : sum_by length lines + length line ≤ 16_777_216 → (1_048_576 < length (without_end line)) ⊎ (length (without_end line) ≤ 1_048_576) → HasOne (lines ++ line ∷ more)
    long size (inl l) = (IsFaulty (length lines + 1) LineLong, judged_long lines state given line more j size l)
    long size (inr m) = utf8 size m (utf8_or_not line)

    big : (16_777_216 < sum_by length lines + length line) ⊎ (sum_by length lines + length line ≤ 16_777_216) → HasOne (lines ++ line ∷ more)
    big (inl l) = (IsFaulty (length lines + 1) TooBig, judged_big lines state given line more j l)
    big (inr size) = long size (cases_lt 1_048_576 (length (without_end line)))

pub judged_from : (rest lines : List (List ℕ)) (state : State) (given : List Event) → Judged lines state given → HasOne (lines ++ rest)
judged_from [] lines state given j = rw append-nil (ended lines state given j)
judged_from (line ∷ more) lines state given j =
    judged_next lines state given line more j
    (λ new all k. subst HasOne (append_assoc lines (line ∷ []) more) (judged_from more (lines ++ line ∷ []) new all k))

-- all bytes have a verdict
pub has_verdict : (bytes : List ℕ) → (verdict : Verdict) × HasVerdict bytes verdict
has_verdict bytes = judged_from (lines_of bytes) [] Before [] judged_none
