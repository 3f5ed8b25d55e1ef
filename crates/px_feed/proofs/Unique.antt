-- A feed has one list of items and one stop.
use Rattle.std.proofs.Common.{◌≡◌, ℕ, zero, suc, ◌+◌, ◌<◌, ◌≤◌, ◌⊎◌, inl, inr, List, [], ◌∷◌, ◌++◌, length, take, drop, Option, Some, None, refl, ap, sym, ◌∙◌, subst, length-append, arith}
use Rattle.std.proofs.lemmas.Bool.{cases_lt, cases_order}
use Rattle.std.proofs.lemmas.List.{drop_at, length-drop, take_at}
use Rattle.std.proofs.lemmas.Option.{none-some, same_Some}
use Rattle.px_text.specs.Nodes.{Root}
use Rattle.px_reader.specs.Lines.{without_end}
use Rattle.px_reader.specs.Spelling.{Spells}
use Rattle.px_reader.specs.declared.fault.DocKind.TheVariants.{NotHere, NotUtf8, LineLong, TooDeep, TooManyAttributes, TooBig, Truncated}
use Rattle.px_reader.proofs.Judged.{shows_same}
use Rattle.px_reader.proofs.LineCuts.{take_lines}
use Rattle.px_reader.proofs.Unique.{spells_one}
use Rattle.px_feed.specs.declared.line.FeedKind.{FeedKind}
use Rattle.px_feed.specs.declared.line.FeedKind.TheVariants.{Doc, FeedLong}
use Rattle.px_feed.specs.Items.{Item, Showing, Stop, AtEnd, AtFault, Outside, Skips, Brings, Starts, Misplaced, outside, ShowsOutside, ShowsInside, feed_rank, IsFirst, HasNone, GoesOn, IsWhole, Begins, Gives, no_lines, skips, brings, outside_faulty, document, inside_faulty, truncated, bytes_in, most_bytes}

abbrev by_rank : ℕ → FeedKind
by_rank zero = FeedLong
by_rank (suc zero) = Doc TooBig
by_rank (suc (suc zero)) = Doc LineLong
by_rank (suc (suc (suc zero))) = Doc NotUtf8
by_rank (suc (suc (suc (suc zero)))) = Doc NotHere
by_rank (suc (suc (suc (suc (suc zero))))) = Doc TooDeep
by_rank (suc (suc (suc (suc (suc (suc zero)))))) = Doc TooManyAttributes
by_rank _ = Doc Truncated

by_rank-rank : (kind : FeedKind) → by_rank (feed_rank kind) ≡ kind
by_rank-rank FeedLong = refl
by_rank-rank (Doc TooBig) = refl
by_rank-rank (Doc LineLong) = refl
by_rank-rank (Doc NotUtf8) = refl
by_rank-rank (Doc NotHere) = refl
by_rank-rank (Doc TooDeep) = refl
by_rank-rank (Doc TooManyAttributes) = refl
by_rank-rank (Doc Truncated) = refl

-- one kind at most is the first that shows
first_one : (Shown : FeedKind → Type 0) (kind other : FeedKind) → IsFirst Shown kind → IsFirst Shown other → kind ≡ other
first_one Shown kind other f g = on (cases_order (feed_rank kind) (feed_rank other))
  where
    on : (feed_rank kind ≡ feed_rank other) ⊎ ((feed_rank kind < feed_rank other) ⊎ (feed_rank other < feed_rank kind)) → kind ≡ other
    on (inl e) = sym (by_rank-rank kind) ∙ ap by_rank e ∙ by_rank-rank other
    on (inr (inl l)) = absurd (g.1 kind l f.0)
    on (inr (inr l)) = absurd (f.1 other l g.0)

-- what the first line of some does: with so many lines behind it, it brings these items; or the feed stops so
data Turn : Type 0 where
  Goes : (behind : ℕ) → List Item → Turn
  Stops : Stop → Turn

-- The first n lines are a document that begins behind the lines before.
record Closes (before lines : List (List ℕ)) (n : ℕ) (root : Root) : Type 0 where
  inside : n ≤ length lines
  fine : (j : ℕ) → j < n → HasNone (ShowsInside before lines j)
  still_open : (j : ℕ) (other : Root) → j < n → Spells (take j lines) other → ⊥
  spells : Spells (take n lines) root

-- what comes of a document that the first of the lines begins
data Course (before lines : List (List ℕ)) : Turn → Type 0 where
  closes : (k : ℕ) {root : Root} → Closes before lines (suc k) root → Course before lines (Goes k (Showing root ∷ []))
  breaks : (k : ℕ) {kind : FeedKind} → k < length lines → GoesOn before lines k → IsFirst (ShowsInside before lines k) kind →
      Course before lines (Stops (AtFault (length before + k + 1) kind))
  never_ends : GoesOn before lines (length lines) → Course before lines (Stops (AtFault (length before + length lines) (Doc Truncated)))

-- the items of a line that is no document's
abbrev brought_by : Outside → Option (List Item)
brought_by Skips = Some []
brought_by (Brings item) = Some (item ∷ [])
brought_by Starts = None
brought_by Misplaced = None

-- what the first line does, with more lines behind it
data Turns (before : List (List ℕ)) (first : List ℕ) (more : List (List ℕ)) : Turn → Type 0 where
  takes : {front : List Item} → HasNone (ShowsOutside before first) → brought_by (outside (without_end first)) ≡ Some front → Turns before first more (Goes 0 front)
  fails : {kind : FeedKind} → IsFirst (ShowsOutside before first) kind → Turns before first more (Stops (AtFault (length before + 1) kind))
  enters : {turn : Turn} → Begins before first → Course before (first ∷ more) turn → Turns before first more turn

-- one document is at the front of lines
closes_one : (before lines : List (List ℕ)) (n m : ℕ) (root other : Root) → Closes before lines n root → Closes before lines m other → (n ≡ m) × (root ≡ other)
closes_one before lines n m root other c d = on (cases_order n m)
  where
    on : (n ≡ m) ⊎ ((n < m) ⊎ (m < n)) → (n ≡ m) × (root ≡ other)
    on (inl e) = (e, spells_one (take n lines) root other c.spells (subst (λ k. Spells (take k lines) other) (sym e) d.spells))
    on (inr (inl l)) = absurd (d.still_open n root l c.spells)
    on (inr (inr l)) = absurd (c.still_open m other l d.spells)

-- where the first lines are a document, no line that it goes on to has a fault
closes_breaks : (before lines : List (List ℕ)) (n k : ℕ) (root : Root) (kind : FeedKind) → Closes before lines n root → GoesOn before lines k →
    ShowsInside before lines k kind → ⊥
closes_breaks before lines n k root kind c g s = on (cases_lt k n)
  where
    on : (k < n) ⊎ (n ≤ k) → ⊥
    on (inl l) = c.fine k l kind s
    on (inr l) = g.still_open n root l c.spells

-- the first fault of a document stands at one line
breaks_one : (before lines : List (List ℕ)) (k j : ℕ) (kind other : FeedKind) → GoesOn before lines k → IsFirst (ShowsInside before lines k) kind →
    GoesOn before lines j → IsFirst (ShowsInside before lines j) other → (k ≡ j) × (kind ≡ other)
breaks_one before lines k j kind other g f h d = on (cases_order k j)
  where
    on : (k ≡ j) ⊎ ((k < j) ⊎ (j < k)) → (k ≡ j) × (kind ≡ other)
    on (inl e) = (e, first_one (ShowsInside before lines k) kind other f (subst (λ n. IsFirst (ShowsInside before lines n) other) (sym e) d))
    on (inr (inl l)) = absurd (h.fine k l kind f.0)
    on (inr (inr l)) = absurd (g.fine j l other d.0)

course_one : {before lines : List (List ℕ)} {turn other : Turn} → Course before lines turn → Course before lines other → turn ≡ other
course_one {before = before} {lines = lines} (closes k {root = root} c) (closes j {root = other} d) =
    let (e, same) = closes_one before lines (suc k) (suc j) root other c d in
    let n : k ≡ j = omega arith in
    λ i. Goes (n i) (Showing (same i) ∷ [])
course_one {before = before} {lines = lines} (closes k {root = root} c) (breaks j {kind = kind} l g f) = absurd (closes_breaks before lines (suc k) j root kind c g f.0)
course_one (closes k {root = root} c) (never_ends g) = absurd (g.still_open (suc k) root c.inside c.spells)
course_one {before = before} {lines = lines} (breaks k {kind = kind} l g f) (closes j {root = root} d) = absurd (closes_breaks before lines (suc j) k root kind d g f.0)
course_one {before = before} {lines = lines} (breaks k {kind = kind} l g f) (breaks j {kind = other} m h d) =
    let (e, same) = breaks_one before lines k j kind other g f h d in
    λ i. Stops (AtFault (length before + e i + 1) (same i))
course_one (breaks k {kind = kind} l g f) (never_ends h) = absurd (h.fine k l kind f.0)
course_one (never_ends g) (closes j {root = root} d) = absurd (g.still_open (suc j) root d.inside d.spells)
course_one (never_ends g) (breaks j {kind = other} m h d) = absurd (g.fine j m other d.0)
course_one (never_ends g) (never_ends h) = refl

-- a line that begins a document brings nothing
not_brought : (before : List (List ℕ)) (first : List ℕ) (front : List Item) → brought_by (outside (without_end first)) ≡ Some front → Begins before first → ⊥
not_brought before first front e b = none-some front (sym (ap brought_by b.starts) ∙ e)

turns_one : {before : List (List ℕ)} {first : List ℕ} {more : List (List ℕ)} {turn other : Turn} → Turns before first more turn → Turns before first more other → turn ≡ other
turns_one (takes {front = front} fine e) (takes {front = front'} fine' e') =
    ap (Goes 0) (same_Some front front' (sym e ∙ e'))
turns_one (takes fine e) (fails {kind = other} d) = absurd (fine other d.0)
turns_one {before = before} {first = first} (takes {front = front} fine e) (enters b c) = absurd (not_brought before first front e b)
turns_one (fails {kind = kind} f) (takes fine e) = absurd (fine kind f.0)
turns_one {before = before} {first = first} (fails {kind = kind} f) (fails {kind = other} d) =
    ap (λ k. Stops (AtFault (length before + 1) k)) (first_one (ShowsOutside before first) kind other f d)
turns_one (fails {kind = kind} f) (enters b c) = absurd (b.fine kind f.0)
turns_one {before = before} {first = first} (enters b c) (takes {front = front} fine e) = absurd (not_brought before first front e b)
turns_one (enters b c) (fails {kind = other} d) = absurd (b.fine other d.0)
turns_one (enters b c) (enters b' d) = course_one c d

-- a line of a document that has no fault has none with more lines behind the document
none_behind : (before lines more : List (List ℕ)) (j : ℕ) → j < length lines → HasNone (ShowsInside before lines j) → HasNone (ShowsInside before (lines ++ more) j)
none_behind before lines more j l fine FeedLong s =
    fine FeedLong (subst (λ ls. most_bytes < bytes_in before + bytes_in ls) (take_lines lines more (j + 1) (omega arith)) s)
none_behind before lines more j l fine (Doc kind) s = fine (Doc kind) (shows_same (lines ++ more) lines j kind (take_lines lines more (j + 1) (omega arith)) s)

whole_closes : (before lines more : List (List ℕ)) (root : Root) → IsWhole before lines root → Closes before (lines ++ more) (length lines) root
whole_closes before lines more root whole = record {
  inside = rw length-append (omega arith);
  fine = λ j l. none_behind before lines more j l (whole.fine j l);
  still_open = λ j other l spells. whole.still_open j other l (subst (λ ls. Spells ls other) (take_lines lines more j (omega arith)) spells);
  spells = subst (λ ls. Spells ls root) (sym (take_at lines more (length lines) refl)) whole.spells;
}

-- what the lines behind the first give, after its turn
abbrev Behind : (before : List (List ℕ)) (first : List ℕ) (more : List (List ℕ)) → Turn → List Item → Stop → Type 0
Behind before first more (Goes k front) items stop =
    (later : List Item) × (items ≡ front ++ later) × Gives (before ++ first ∷ take k more) (drop k more) later stop
Behind before first more (Stops end) items stop = (items ≡ []) × (stop ≡ end)

-- how lines give what they give, by their first line
abbrev ByFirst : (before lines : List (List ℕ)) → List Item → Stop → Type 0
ByFirst before [] items stop = (items ≡ []) × (stop ≡ AtEnd)
ByFirst before (first ∷ more) items stop = (turn : Turn) × Turns before first more turn × Behind before first more turn items stop

by_document : (before taken lines : List (List ℕ)) (line : List ℕ) (root : Root) (items : List Item) (stop : Stop) → Begins before line →
    IsWhole before (line ∷ taken) root → Gives (before ++ line ∷ taken) lines items stop → ByFirst before (line ∷ taken ++ lines) (Showing root ∷ items) stop
by_document before taken lines line root items stop begins whole g =
    (Goes (length taken) (Showing root ∷ []), enters begins (closes (length taken) (whole_closes before (line ∷ taken) lines root whole)), (items, refl, behind))
  where
    behind : Gives (before ++ line ∷ take (length taken) (taken ++ lines)) (drop (length taken) (taken ++ lines)) items stop
    behind =
        subst (λ ls. Gives (before ++ line ∷ ls) (drop (length taken) (taken ++ lines)) items stop) (sym (take_at taken lines (length taken) refl))
        (subst (λ ls. Gives (before ++ line ∷ taken) ls items stop) (sym (drop_at taken lines (length taken) refl)) g)

by_first : {before lines : List (List ℕ)} {items : List Item} {stop : Stop} → Gives before lines items stop → ByFirst before lines items stop
by_first no_lines = (refl, refl)
by_first (skips {items = items} fine e g) = (Goes 0 [], takes fine (ap brought_by e), (items, refl, g))
by_first (brings {item = item} {items = items} fine e g) = (Goes 0 (item ∷ []), takes fine (ap brought_by e), (items, refl, g))
by_first (outside_faulty {before = before} {kind = kind} first) = (Stops (AtFault (length before + 1) kind), fails first, (refl, refl))
by_first (document {before = before} {document = taken} {lines = lines} {line = line} {root = root} {items = items} {stop = stop} begins whole g) =
    by_document before taken lines line root items stop begins whole g
by_first (inside_faulty {before = before} {kind = kind} k begins l on first) =
    (Stops (AtFault (length before + k + 1) kind), enters begins (breaks k l on first), (refl, refl))
by_first (truncated {before = before} {lines = lines} {line = line} begins on) =
    (Stops (AtFault (length before + length (line ∷ lines)) (Doc Truncated)), enters begins (never_ends on), (refl, refl))

-- the items and the stop of some lines are one, whatever they are
abbrev One : List (List ℕ) → Type 0
One lines = (before : List (List ℕ)) (items others : List Item) (stop end : Stop) → Gives before lines items stop → Gives before lines others end → (items ≡ others) × (stop ≡ end)

behind_one : (before : List (List ℕ)) (first : List ℕ) (more : List (List ℕ)) (turn : Turn) (items others : List Item) (stop end : Stop) →
    ((k : ℕ) → One (drop k more)) → Behind before first more turn items stop → Behind before first more turn others end → (items ≡ others) × (stop ≡ end)
behind_one before first more (Goes k front) items others stop end next (later, e, g) (later', e', g') =
    let (same, ends) = next k (before ++ first ∷ take k more) later later' stop end g g' in
    (e ∙ ap (λ its. front ++ its) same ∙ sym e', ends)
behind_one before first more (Stops s) items others stop end next (e, f) (e', f') = (e ∙ sym e', f ∙ sym f')

first_turn_one : (first : List ℕ) (more : List (List ℕ)) → ((k : ℕ) → One (drop k more)) → One (first ∷ more)
first_turn_one first more next before items others stop end g h =
    let (turn, turns, behind) = by_first g in
    let (turn', turns', behind') = by_first h in
    behind_one before first more turn items others stop end next behind
    (subst (λ t. Behind before first more t others end) (sym (turns_one turns turns')) behind')

no_line_one : One []
no_line_one before items others stop end g h = let (i, s) = by_first g in let (o, e) = by_first h in (i ∙ sym o, s ∙ sym e)

-- so many lines at most give one list of items
within_one : (n : ℕ) (lines : List (List ℕ)) → length lines ≤ n → One lines
within_one n [] l = no_line_one
within_one zero (first ∷ more) l = absurd (omega arith)
within_one (suc n) (first ∷ more) l = first_turn_one first more (λ k. within_one n (drop k more) (fewer k))
  where
    fewer : (k : ℕ) → length (drop k more) ≤ n
    fewer k = rw length-drop (omega arith)

pub gives-one : {before lines : List (List ℕ)} {items others : List Item} {stop end : Stop} → Gives before lines items stop → Gives before lines others end → (items ≡ others) × (stop ≡ end)
gives-one {before = before} {lines = lines} {items = items} {others = others} {stop = stop} {end = end} g h =
    within_one (length lines) lines (omega arith) before items others stop end g h
