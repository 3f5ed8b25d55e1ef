-- Which fault a line has behind lines that are cut.
use Rattle.std.proofs.Common.{◌≡◌, ℕ, ◌+◌, ◌<◌, ◌≤◌, true, List, [], ◌∷◌, ◌++◌, length, take, refl, ap, sym, ◌∙◌, subst, append_assoc, append-nil, length-append, ◌⊎◌, inl, inr, Err, IsUtf8, arith}
use Rattle.std.proofs.lemmas.List.{length_push}
use Rattle.std.proofs.lemmas.List.Sums.{sum_by-append, sum_by_push}
use Rattle.std.specs.List.{sum_by}
use Rattle.px_text.specs.Nodes.{Root}
use Rattle.px_reader.specs.Lines.{lines_of, is_ended, has_no_feed, without_end}
use Rattle.px_reader.specs.Spelling.{Spells}
use Rattle.px_reader.specs.Verdicts.{Shows, IsFine, HasVerdict, Judges, IsTree, IsFaulty}
use Rattle.px_reader.specs.Records.{Refuses, RefusesEnd}
use Rattle.px_reader.specs.declared.fault.DocKind.{DocKind}
use Rattle.px_reader.specs.declared.fault.DocKind.TheVariants.{NotHere, NotUtf8, LineLong, TooDeep, TooManyAttributes, TooBig, Truncated}
use Rattle.px_reader.specs.declared.fault.LineFault.{LineFault}
use Rattle.px_reader.specs.declared.fault.LineFault.TheVariants.{Kind, LineMemory}
use Rattle.px_reader.proofs.Endless.{never_truncated}
use Rattle.px_reader.proofs.Judged.{fine_behind, shows_same, breaks_shows, shows_breaks}
use Rattle.px_reader.proofs.LineCuts.{lines_whole, take_next, take_long, sizes}
use Rattle.px_reader.proofs.Verdicts.{Faulty, Ends, split, judges_one}
use Rattle.px_reader.specs.declared.recorder.Recorder.{Recorder}
use Rattle.px_feed.specs.declared.line.FeedKind.{FeedKind}
use Rattle.px_feed.specs.declared.line.FeedKind.TheVariants.{Doc, FeedLong}
use Rattle.px_feed.specs.Cutting.{Leads, Stands, Standing, Fails, EndsBy}
use Rattle.px_feed.specs.Effects.{Does, IsFit, DoesFit}
use Rattle.px_feed.specs.Failures.{failure_of}
use Rattle.px_feed.specs.Items.{Item, Outside, Skips, Brings, Starts, Misplaced, AtFault, outside, ShowsOutside, ShowsInside, IsFirst, Begins, Gives, feed_rank, bytes_in, most_bytes}
use Rattle.px_feed.proofs.Leading.{fails_outside, fails_inside, truncates, goes_on, goes_on_all}
use Rattle.px_feed.proofs.Cuttings.{over, lines_more, whole_more, size_more, size_before, fine_inside, opening, open_more, last_lines, MayEnd, opening_end, size_end, Placed, outside_them, inside_one, placed}

is_misplaced : (x : Outside) → Does (Err (Kind NotHere)) x → x ≡ Misplaced
is_misplaced Skips d = absurd d
is_misplaced (Brings item) d = absurd d
is_misplaced Starts d = absurd d
is_misplaced Misplaced d = refl

-- the first fault of a line outside documents
pub first_long : (before : List (List ℕ)) (line : List ℕ) → bytes_in before + length line ≤ most_bytes → 1_048_576 < length (without_end line) →
    IsFirst (ShowsOutside before line) (Doc LineLong)
first_long before line size long = (long, none)
  where
    none : (other : FeedKind) → feed_rank other < feed_rank (Doc LineLong) → ShowsOutside before line other → ⊥
    none FeedLong r s = over (bytes_in before + length line) most_bytes size s
    none (Doc TooBig) r s = s
    none (Doc LineLong) r s = omega arith
    none (Doc NotUtf8) r s = omega arith
    none (Doc NotHere) r s = omega arith
    none (Doc TooDeep) r s = s
    none (Doc TooManyAttributes) r s = s
    none (Doc Truncated) r s = s

pub first_not_utf8 : (before : List (List ℕ)) (line : List ℕ) → bytes_in before + length line ≤ most_bytes → length (without_end line) ≤ 1_048_576 → (IsUtf8 line → ⊥) →
    IsFirst (ShowsOutside before line) (Doc NotUtf8)
first_not_utf8 before line size long bad = (bad, none)
  where
    none : (other : FeedKind) → feed_rank other < feed_rank (Doc NotUtf8) → ShowsOutside before line other → ⊥
    none FeedLong r s = over (bytes_in before + length line) most_bytes size s
    none (Doc TooBig) r s = s
    none (Doc LineLong) r s = over (length (without_end line)) 1_048_576 long s
    none (Doc NotUtf8) r s = omega arith
    none (Doc NotHere) r s = omega arith
    none (Doc TooDeep) r s = s
    none (Doc TooManyAttributes) r s = s
    none (Doc Truncated) r s = s

pub first_not_here : (before : List (List ℕ)) (line : List ℕ) → bytes_in before + length line ≤ most_bytes → IsFit line → outside (without_end line) ≡ Misplaced →
    IsFirst (ShowsOutside before line) (Doc NotHere)
first_not_here before line size fit placed = (placed, none)
  where
    none : (other : FeedKind) → feed_rank other < feed_rank (Doc NotHere) → ShowsOutside before line other → ⊥
    none FeedLong r s = over (bytes_in before + length line) most_bytes size s
    none (Doc TooBig) r s = s
    none (Doc LineLong) r s = over (length (without_end line)) 1_048_576 fit.0 s
    none (Doc NotUtf8) r s = s fit.1
    none (Doc NotHere) r s = omega arith
    none (Doc TooDeep) r s = s
    none (Doc TooManyAttributes) r s = s
    none (Doc Truncated) r s = s

-- a line that is not taken outside documents
pub line_fails_outside : (before : List (List ℕ)) (line : List ℕ) (given : List Item) (n : ℕ) (fault : LineFault) → Leads before given → bytes_in before + length line ≤ most_bytes →
    DoesFit (Err fault) line → n ≡ length before + 1 → Fails (before ++ line ∷ []) given (failure_of n fault)
line_fails_outside before line given n LineMemory leads size does e = tt
line_fails_outside before line given n (Kind LineLong) leads size does e = fails_outside before line given (Doc LineLong) n leads (first_long before line size does) e
line_fails_outside before line given n (Kind NotUtf8) leads size does e = fails_outside before line given (Doc NotUtf8) n leads (first_not_utf8 before line size does.0 does.1) e
line_fails_outside before line given n (Kind NotHere) leads size does e =
    fails_outside before line given (Doc NotHere) n leads (first_not_here before line size does.0 (is_misplaced (outside (without_end line)) does.1)) e
line_fails_outside before line given n (Kind TooDeep) leads size does e = absurd (not_done (outside (without_end line)) does.1)
  where
    not_done : (x : Outside) → Does (Err (Kind TooDeep)) x → ⊥
    not_done Skips d = d
    not_done (Brings item) d = d
    not_done Starts d = d
    not_done Misplaced d = d
line_fails_outside before line given n (Kind TooManyAttributes) leads size does e = absurd (not_done (outside (without_end line)) does.1)
  where
    not_done : (x : Outside) → Does (Err (Kind TooManyAttributes)) x → ⊥
    not_done Skips d = d
    not_done (Brings item) d = d
    not_done Starts d = d
    not_done Misplaced d = d
line_fails_outside before line given n (Kind TooBig) leads size does e = absurd (not_done (outside (without_end line)) does.1)
  where
    not_done : (x : Outside) → Does (Err (Kind TooBig)) x → ⊥
    not_done Skips d = d
    not_done (Brings item) d = d
    not_done Starts d = d
    not_done Misplaced d = d
line_fails_outside before line given n (Kind Truncated) leads size does e = absurd (not_done (outside (without_end line)) does.1)
  where
    not_done : (x : Outside) → Does (Err (Kind Truncated)) x → ⊥
    not_done Skips d = d
    not_done (Brings item) d = d
    not_done Starts d = d
    not_done Misplaced d = d

-- a fault of the line behind lines without a fault is that of the first line which has one
at_the_line : (lines : List (List ℕ)) (line : List ℕ) (l : ℕ) (kind : DocKind) → ((k : ℕ) → k < length lines → IsFine lines k) → (f : Faulty (lines ++ line ∷ []) l kind) →
    f.k ≡ length lines
at_the_line lines line l kind fine f = place f.k (length lines) (rw length_push at f.inside) (λ k. fine_behind lines (line ∷ []) f.k k (fine f.k k) kind f.shows)
  where
    place : (k n : ℕ) → k < n + 1 → (k < n → ⊥) → k ≡ n
    place k n l none = omega arith

same_through : (lines : List (List ℕ)) (line : List ℕ) (rest : List (List ℕ)) → take (length lines + 1) (lines ++ line ∷ []) ≡ take (length lines + 1) (lines ++ line ∷ rest)
same_through lines line rest = take_next lines line [] ∙ sym (take_next lines line rest)

pub first_inside : (before lines : List (List ℕ)) (line : List ℕ) (rest : List (List ℕ)) (l : ℕ) (kind : DocKind) → ((k : ℕ) → k < length lines → IsFine lines k) →
    bytes_in before + bytes_in (lines ++ line ∷ []) ≤ most_bytes → Faulty (lines ++ line ∷ []) l kind → IsFirst (ShowsInside before (lines ++ line ∷ rest) (length lines)) (Doc kind)
first_inside before lines line rest l kind fine fits f =
    (shows_same (lines ++ line ∷ []) (lines ++ line ∷ rest) (length lines) kind (same_through lines line rest) (subst (λ k. Shows (lines ++ line ∷ []) k kind) at f.shows), none)
  where
    at : f.k ≡ length lines
    at = at_the_line lines line l kind fine f

    none : (other : FeedKind) → feed_rank other < feed_rank (Doc kind) → ShowsInside before (lines ++ line ∷ rest) (length lines) other → ⊥
    none FeedLong r s = over (bytes_in before + bytes_in (lines ++ line ∷ [])) most_bytes fits (subst (λ ls. most_bytes < bytes_in before + bytes_in ls) (take_next lines line rest) s)
    none (Doc other) r s =
        f.first other (omega arith)
        (subst (λ k. Shows (lines ++ line ∷ []) k other) (sym at) (shows_same (lines ++ line ∷ rest) (lines ++ line ∷ []) (length lines) other (sym (same_through lines line rest)) s))

-- a line of a document with its first fault, whatever comes behind it
inside_fails : (document : Recorder) (before : List (List ℕ)) (inside line : List ℕ) (rest : List (List ℕ)) (given : List Item) (kind : FeedKind) (n : ℕ) → Stands document before inside given →
    (inside ≡ [] → Begins before line) → bytes_in before + bytes_in (lines_of inside) ≤ most_bytes → IsFirst (ShowsInside before (lines_of inside ++ line ∷ rest) (length (lines_of inside))) kind →
    n ≡ length (before ++ lines_of inside) + 1 → Gives [] (((before ++ lines_of inside) ++ line ∷ []) ++ rest) given (AtFault n kind)
inside_fails document before inside line rest given kind n s one fits first e =
    let lines = lines_of inside in
    let same : before ++ (lines ++ line ∷ rest) ≡ ((before ++ lines) ++ line ∷ []) ++ rest = sym (append_assoc (before ++ lines) (line ∷ []) rest ∙ append_assoc before lines (line ∷ rest)) in
    let count : n ≡ length before + length lines + 1 = e ∙ ap (λ k. k + 1) (length-append before lines) in
    let here : length lines < length (lines ++ line ∷ rest) = rw length-append (omega arith) in
    subst (λ ls. Gives [] ls given (AtFault n kind)) same
    (fails_inside before (lines ++ line ∷ rest) (length lines) given kind n s.leads (opening document before inside line rest given s one) here
    (goes_on before lines (line ∷ rest) (fine_inside document before inside given s) s.still_open fits) first count)

-- what the reader says of a line of the document
pub refused_inside : (document : Recorder) (before : List (List ℕ)) (inside line : List ℕ) (given : List Item) (fault : LineFault) (n : ℕ) → Stands document before inside given →
    is_ended line ≡ true → (inside ≡ [] → Begins before line) → bytes_in (before ++ lines_of inside) + length line ≤ most_bytes → n ≡ length (before ++ lines_of inside) + 1 →
    Refuses inside line fault → Fails ((before ++ lines_of inside) ++ line ∷ []) given (failure_of n fault)
refused_inside document before inside line given LineMemory n s ends one fits e refused = tt
refused_inside document before inside line given (Kind kind) n s ends one fits e refused = λ rest.
    inside_fails document before inside line rest given (Doc kind) n s one (size_before before (lines_of inside) line fits)
    (first_inside before (lines_of inside) line rest (length (lines_of inside) + 1) kind (fine_inside document before inside given s) (size_more before (lines_of inside) line fits)
    (on (split (lines_of inside ++ line ∷ []) (length (lines_of inside) + 1) kind (refused [])))) e
  where
    all : (rest : List ℕ) → lines_of ((inside ++ line) ++ rest) ≡ lines_of inside ++ line ∷ lines_of rest
    all rest =
        lines_whole (inside ++ line) rest (whole_more inside line ends) ∙ ap (λ ls. ls ++ lines_of rest) (lines_more inside line s.whole ends)
        ∙ append_assoc (lines_of inside) (line ∷ []) (lines_of rest)

    on : Faulty (lines_of inside ++ line ∷ []) (length (lines_of inside) + 1) kind ⊎ ((kind ≡ Truncated) × Ends (lines_of inside ++ line ∷ []) (length (lines_of inside) + 1)) →
        Faulty (lines_of inside ++ line ∷ []) (length (lines_of inside) + 1) kind
    on (inl f) = f
    on (inr (e, ends)) =
        absurd (never_truncated (inside ++ line) (length (lines_of inside) + 1)
        (λ rest. subst (λ k. HasVerdict ((inside ++ line) ++ rest) (IsFaulty (length (lines_of inside) + 1) k)) e
        (subst (λ ls. Judges ls (IsFaulty (length (lines_of inside) + 1) kind)) (sym (all rest)) (refused (lines_of rest)))))

-- the lines end, and the document does not
truncated_end : (old : Recorder) (before : List (List ℕ)) (inside line : List ℕ) (given : List Item) (n : ℕ) → Stands old before inside given → has_no_feed line ≡ true →
    MayEnd before inside line → bytes_in (before ++ lines_of inside) + length line ≤ most_bytes → n ≡ length ((before ++ lines_of inside) ++ lines_of line) →
    ((k : ℕ) → k < length (lines_of inside ++ lines_of line) → IsFine (lines_of inside ++ lines_of line) k) → ((root : Root) → Spells (lines_of inside ++ lines_of line) root → ⊥) →
    Gives [] ((before ++ lines_of inside) ++ lines_of line) given (AtFault n (Doc Truncated))
truncated_end old before inside line given n s no_feed may fits e fine none =
    subst (λ ls. Gives [] ls given (AtFault n (Doc Truncated))) (sym (append_assoc before (lines_of inside) (lines_of line)))
    (truncates before (lines_of inside ++ lines_of line) given n s.leads (opening_end old before inside line given s no_feed may)
    (goes_on_all before (lines_of inside ++ lines_of line) fine still (size_end before (lines_of inside) line fits)) count)
  where
    count : n ≡ length before + length (lines_of inside ++ lines_of line)
    count = e ∙ ap length (append_assoc before (lines_of inside) (lines_of line)) ∙ length-append before (lines_of inside ++ lines_of line)

    still : (j : ℕ) (root : Root) → j ≤ length (lines_of inside ++ lines_of line) → Spells (take j (lines_of inside ++ lines_of line)) root → ⊥
    still j root l spells = on (last_lines line no_feed)
      where
        on : ((line ≡ []) × (lines_of line ≡ [])) ⊎ ((0 < length line) × (lines_of line ≡ line ∷ [])) → ⊥
        on (inl (empty, zero_lines)) =
            let same : lines_of inside ++ lines_of line ≡ lines_of inside = ap (λ ls. lines_of inside ++ ls) zero_lines ∙ append-nil (lines_of inside) in
            s.still_open j root (subst (λ ls. j ≤ length ls) same l) (subst (λ ls. Spells (take j ls) root) same spells)
        on (inr (some, one)) =
            open_more (lines_of inside) line j s.still_open (λ root spells. none root (subst (λ ls. Spells (lines_of inside ++ ls) root) (sym one) spells)) root
            (subst (λ ls. j ≤ length (lines_of inside ++ ls)) one l) (subst (λ ls. Spells (take j (lines_of inside ++ ls)) root) one spells)

-- the lines end the document with a fault
pub ends_fault : (old : Recorder) (before : List (List ℕ)) (inside line : List ℕ) (given : List Item) (fault : LineFault) (n : ℕ) → Stands old before inside given →
    has_no_feed line ≡ true → MayEnd before inside line → bytes_in (before ++ lines_of inside) + length line ≤ most_bytes →
    n ≡ length ((before ++ lines_of inside) ++ lines_of line) → RefusesEnd inside line fault → EndsBy (Err (failure_of n fault)) ((before ++ lines_of inside) ++ lines_of line) given
ends_fault old before inside line given LineMemory n s no_feed may fits e last = tt
ends_fault old before inside line given (Kind kind) n s no_feed may fits e last =
    on (split (lines_of inside ++ lines_of line) (length (lines_of (inside ++ line))) kind (subst (λ ls. Judges ls (IsFaulty (length (lines_of (inside ++ line))) kind)) (lines_whole inside line s.whole) last))
  where
    fine : (k : ℕ) → k < length (lines_of inside) → IsFine (lines_of inside) k
    fine = fine_inside old before inside given s

    at_last : Faulty (lines_of inside ++ lines_of line) (length (lines_of (inside ++ line))) kind → ((line ≡ []) × (lines_of line ≡ [])) ⊎ ((0 < length line) × (lines_of line ≡ line ∷ [])) →
        Gives [] ((before ++ lines_of inside) ++ lines_of line) given (AtFault n (Doc kind))
    at_last f (inl (empty, zero_lines)) =
        let same : lines_of inside ++ lines_of line ≡ lines_of inside = ap (λ ls. lines_of inside ++ ls) zero_lines ∙ append-nil (lines_of inside) in
        let l : f.k < length (lines_of inside) = subst (λ ls. f.k < length ls) same f.inside in
        absurd (fine f.k l kind (subst (λ ls. Shows ls f.k kind) same f.shows))
    at_last f (inr (some, one)) =
        let g = subst (λ ls. Faulty (lines_of inside ++ ls) (length (lines_of (inside ++ line))) kind) one f in
        let count : n ≡ length (before ++ lines_of inside) + 1 = e ∙ ap (λ ls. length ((before ++ lines_of inside) ++ ls)) one ∙ length_push (before ++ lines_of inside) line in
        let here = inside_fails old before inside line [] given (Doc kind) n s (λ none. (may none).1) (size_before before (lines_of inside) line fits)
        (first_inside before (lines_of inside) line [] (length (lines_of (inside ++ line))) kind fine (size_more before (lines_of inside) line fits) g) count in
        subst (λ ls. Gives [] ((before ++ lines_of inside) ++ ls) given (AtFault n (Doc kind))) (sym one)
        (subst (λ ls. Gives [] ls given (AtFault n (Doc kind))) (append-nil ((before ++ lines_of inside) ++ line ∷ [])) here)

    on : Faulty (lines_of inside ++ lines_of line) (length (lines_of (inside ++ line))) kind ⊎ ((kind ≡ Truncated) × Ends (lines_of inside ++ lines_of line) (length (lines_of (inside ++ line)))) →
        Gives [] ((before ++ lines_of inside) ++ lines_of line) given (AtFault n (Doc kind))
    on (inl f) = at_last f (last_lines line no_feed)
    on (inr (k, ends)) =
        subst (λ kind. Gives [] ((before ++ lines_of inside) ++ lines_of line) given (AtFault n (Doc kind))) (sym k)
        (truncated_end old before inside line given n s no_feed may fits e ends.0 ends.1)

-- a last line that is not taken outside documents
pub line_ends_outside : (before : List (List ℕ)) (line : List ℕ) (given : List Item) (n : ℕ) (fault : LineFault) → Fails (before ++ line ∷ []) given (failure_of n fault) →
    EndsBy (Err (failure_of n fault)) (before ++ line ∷ []) given
line_ends_outside before line given n LineMemory f = tt
line_ends_outside before line given n (Kind kind) f = subst (λ ls. Gives [] ls given (AtFault n (Doc kind))) (append-nil (before ++ line ∷ [])) (f [])

pub first_big : (before lines : List (List ℕ)) (line : List ℕ) (rest : List (List ℕ)) → most_bytes < bytes_in before + bytes_in (lines ++ line ∷ []) →
    IsFirst (ShowsInside before (lines ++ line ∷ rest) (length lines)) FeedLong
first_big before lines line rest long = (subst (λ ls. most_bytes < bytes_in before + bytes_in ls) (sym (take_next lines line rest)) long, λ other r s. absurd (omega arith))

-- with the line the feed has too many bytes
pub long_fails : (document : Recorder) (lines : List (List ℕ)) (line : List ℕ) (given : List Item) (n : ℕ) → Standing document lines given → bytes_in lines ≤ most_bytes →
    most_bytes < bytes_in lines + length line → n ≡ length lines + 1 → (rest : List (List ℕ)) → Gives [] ((lines ++ line ∷ []) ++ rest) given (AtFault n FeedLong)
long_fails document lines line given n s fits long e rest =
    subst (λ ls. Gives [] ((ls ++ line ∷ []) ++ rest) given (AtFault n FeedLong)) (sym s.lines_are)
    (on (lines_of s.inside) refl)
  where
    sizes_are : bytes_in lines ≡ bytes_in s.before + bytes_in (lines_of s.inside)
    sizes_are = ap bytes_in s.lines_are ∙ sum_by-append length s.before (lines_of s.inside)

    count : n ≡ length (s.before ++ lines_of s.inside) + 1
    count = e ∙ ap (λ ls. length ls + 1) s.lines_are

    on : (ls : List (List ℕ)) → lines_of s.inside ≡ ls → Gives [] (((s.before ++ lines_of s.inside) ++ line ∷ []) ++ rest) given (AtFault n FeedLong)
    on [] none =
        let same : s.before ++ lines_of s.inside ≡ s.before = ap (λ ls. s.before ++ ls) none ∙ append-nil s.before in
        let size : most_bytes < bytes_in s.before + length line = subst (λ k. most_bytes < k + length line) (ap bytes_in (s.lines_are ∙ same)) long in
        subst (λ ls. Gives [] ((ls ++ line ∷ []) ++ rest) given (AtFault n FeedLong)) (sym same)
        (fails_outside s.before line given FeedLong n s.stands.leads (size, λ other r x. absurd (omega arith)) (count ∙ ap (λ ls. length ls + 1) same) rest)
    on (first ∷ more) some =
        let one : s.inside ≡ [] → Begins s.before line = λ none. let f : (first ∷ more) ≡ [] = sym some ∙ ap lines_of none in absurd (cc) in
        let big = sum most_bytes (bytes_in lines) (bytes_in s.before) (bytes_in (lines_of s.inside)) (bytes_in (lines_of s.inside ++ line ∷ [])) (length line) sizes_are (sum_by_push length (lines_of s.inside) line) long in
        inside_fails document s.before s.inside line rest given FeedLong n s.stands one (subst (λ k. k ≤ most_bytes) sizes_are fits) (first_big s.before (lines_of s.inside) line rest big) count
      where
        sum : (m x y z w l : ℕ) → x ≡ y + z → w ≡ z + l → m < x + l → m < y + w
        sum m x y z w l p q r = omega arith

too_many : (line : List ℕ) (count : ℕ) → length line ≡ count → 1_048_578 < count → 1_048_576 < length (without_end line)
too_many line count e long = let t = take_long line in above (length line) count (length (without_end line)) e long t
  where
    above : (l c w : ℕ) → l ≡ c → 1_048_578 < c → l ≤ w + 2 → 1_048_576 < w
    above l c w p q r = omega arith

first_inside_long : (before lines : List (List ℕ)) (line : List ℕ) (rest : List (List ℕ)) → bytes_in before + bytes_in (lines ++ line ∷ []) ≤ most_bytes →
    sum_by length lines + length line ≤ 16_777_216 → 1_048_576 < length (without_end line) → IsFirst (ShowsInside before (lines ++ line ∷ rest) (length lines)) (Doc LineLong)
first_inside_long before lines line rest fits small long = (breaks_shows lines line rest LineLong long, none)
  where
    none : (other : FeedKind) → feed_rank other < feed_rank (Doc LineLong) → ShowsInside before (lines ++ line ∷ rest) (length lines) other → ⊥
    none FeedLong r s = over (bytes_in before + bytes_in (lines ++ line ∷ [])) most_bytes fits (subst (λ ls. most_bytes < bytes_in before + bytes_in ls) (take_next lines line rest) s)
    none (Doc TooBig) r s = over (sum_by length lines + length line) 16_777_216 small (shows_breaks lines line rest TooBig s)
    none (Doc LineLong) r s = omega arith
    none (Doc NotUtf8) r s = omega arith
    none (Doc NotHere) r s = omega arith
    none (Doc TooDeep) r s = omega arith
    none (Doc TooManyAttributes) r s = omega arith
    none (Doc Truncated) r s = omega arith

first_inside_big : (before lines : List (List ℕ)) (line : List ℕ) (rest : List (List ℕ)) → bytes_in before + bytes_in (lines ++ line ∷ []) ≤ most_bytes →
    16_777_216 < sum_by length lines + length line → IsFirst (ShowsInside before (lines ++ line ∷ rest) (length lines)) (Doc TooBig)
first_inside_big before lines line rest fits big = (breaks_shows lines line rest TooBig big, none)
  where
    none : (other : FeedKind) → feed_rank other < feed_rank (Doc TooBig) → ShowsInside before (lines ++ line ∷ rest) (length lines) other → ⊥
    none FeedLong r s = over (bytes_in before + bytes_in (lines ++ line ∷ [])) most_bytes fits (subst (λ ls. most_bytes < bytes_in before + bytes_in ls) (take_next lines line rest) s)
    none (Doc other) r s = omega arith

-- a line that is too long, where it leaves room in its document
pub line_long_fails : (document : Recorder) (lines : List (List ℕ)) (line : List ℕ) (given : List Item) (n count : ℕ) → Standing document lines given → length line ≡ count → 1_048_578 < count →
    bytes_in lines + count ≤ most_bytes → (0 < length document → length document + count ≤ 16_777_216) → n ≡ length lines + 1 →
    (rest : List (List ℕ)) → Gives [] ((lines ++ line ∷ []) ++ rest) given (AtFault n (Doc LineLong))
line_long_fails document lines line given n count s same long fits room e rest = on (placed document lines given s)
  where
    size : bytes_in lines + length line ≤ most_bytes
    size = subst (λ k. bytes_in lines + k ≤ most_bytes) (sym same) fits

    on : Placed document lines given → Gives [] ((lines ++ line ∷ []) ++ rest) given (AtFault n (Doc LineLong))
    on (outside_them t) = fails_outside lines line given (Doc LineLong) n t.leads (first_long lines line size (too_many line count same long)) e rest
    on (inside_one before inside lines_are t some) =
        let fit = subst (λ ls. bytes_in ls + length line ≤ most_bytes) lines_are size in
        let held : length document ≡ length inside = ap length t.recorded.bytes_are in
        let many = some_length inside some in
        let small = within (sum_by length (lines_of inside)) (length inside) (length document) (length line) count (sizes inside) held same (room (subst (λ k. 0 < k) (sym held) many)) in
        subst (λ ls. Gives [] ((ls ++ line ∷ []) ++ rest) given (AtFault n (Doc LineLong))) (sym lines_are)
        (inside_fails document before inside line rest given (Doc LineLong) n t (λ none. absurd (some none)) (size_before before (lines_of inside) line fit)
        (first_inside_long before (lines_of inside) line rest (size_more before (lines_of inside) line fit) small (too_many line count same long)) (e ∙ ap (λ ls. length ls + 1) lines_are))
      where
        some_length : (bytes : List ℕ) → (bytes ≡ [] → ⊥) → 0 < length bytes
        some_length [] some = absurd (some refl)
        some_length (b ∷ bytes) some = omega arith

        within : (w i d l c : ℕ) → w ≡ i → d ≡ i → l ≡ c → d + c ≤ 16_777_216 → w + l ≤ 16_777_216
        within w i d l c p q r t = omega arith

-- a line with which its document is too big
pub too_big_fails : (document : Recorder) (lines : List (List ℕ)) (line : List ℕ) (given : List Item) (n count : ℕ) → Standing document lines given → length line ≡ count →
    bytes_in lines + count ≤ most_bytes → (length document ≡ 0 → ⊥) → 16_777_216 < length document + count → n ≡ length lines + 1 →
    (rest : List (List ℕ)) → Gives [] ((lines ++ line ∷ []) ++ rest) given (AtFault n (Doc TooBig))
too_big_fails document lines line given n count s same fits begun big e rest = on (placed document lines given s)
  where
    size : bytes_in lines + length line ≤ most_bytes
    size = subst (λ k. bytes_in lines + k ≤ most_bytes) (sym same) fits

    on : Placed document lines given → Gives [] ((lines ++ line ∷ []) ++ rest) given (AtFault n (Doc TooBig))
    on (outside_them t) = absurd (begun (ap length t.recorded.bytes_are))
    on (inside_one before inside lines_are t some) =
        let fit = subst (λ ls. bytes_in ls + length line ≤ most_bytes) lines_are size in
        let more = above (sum_by length (lines_of inside)) (length inside) (length document) (length line) count (sizes inside) (ap length t.recorded.bytes_are) same big in
        subst (λ ls. Gives [] ((ls ++ line ∷ []) ++ rest) given (AtFault n (Doc TooBig))) (sym lines_are)
        (inside_fails document before inside line rest given (Doc TooBig) n t (λ none. absurd (some none)) (size_before before (lines_of inside) line fit)
        (first_inside_big before (lines_of inside) line rest (size_more before (lines_of inside) line fit) more) (e ∙ ap (λ ls. length ls + 1) lines_are))
      where
        above : (w i d l c : ℕ) → w ≡ i → d ≡ i → l ≡ c → 16_777_216 < d + c → 16_777_216 < w + l
        above w i d l c p q r t = omega arith
