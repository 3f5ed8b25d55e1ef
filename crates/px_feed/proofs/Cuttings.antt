-- What a line does behind lines that are cut, where it has no fault.
use Rattle.std.proofs.Common.{◌≡◌, ℕ, zero, suc, ◌+◌, ◌<◌, ◌≤◌, true, List, [], ◌∷◌, ◌++◌, length, take, refl, ap, sym, ◌∙◌, subst, append_assoc, append-nil, ◌⊎◌, inl, inr, Result, Ok, Err, Option, Some, None, arith}
use Rattle.std.proofs.lemmas.List.{length_push, take_all, nil_from_length}
use Rattle.std.proofs.lemmas.List.Sums.{sum_by-append, sum_by_push}
use Rattle.std.specs.List.{concat}
use Rattle.px_text.specs.Nodes.{Root}
use Rattle.px_reader.specs.Lines.{lines_of, is_whole, is_ended, has_no_feed, without_end}
use Rattle.px_reader.specs.Documents.{content}
use Rattle.px_reader.specs.declared.doc.Doc as docs
use Rattle.px_feed.specs.declared.item.Item.TheVariants.{Document}
use Rattle.px_reader.specs.Spelling.{Spells}
use Rattle.px_reader.specs.Verdicts.{IsFine, HasVerdict, Judges, IsTree}
use Rattle.px_reader.specs.declared.fault.DocKind.TheVariants.{NotHere, NotUtf8, LineLong, TooDeep, TooManyAttributes, TooBig, Truncated}
use Rattle.px_reader.specs.Recorded.{AreFine}
use Rattle.px_reader.proofs.LineCuts.{concat-lines_of, ended_is, lines_push, lines_whole, open_line, whole_push, take_lines, sizes}
use Rattle.px_feed.specs.declared.fault.Failure.{Failure}
use Rattle.px_reader.specs.declared.recorder.Recorder.{Recorder}
use Rattle.px_feed.specs.declared.item.Item.{Item as Given}
use Rattle.px_feed.specs.declared.line.FeedKind.TheVariants.{Doc, FeedLong}
use Rattle.px_feed.specs.declared.outside.Effect.TheVariants.{Nothing, Gives as GivesItem, Begins as BeginsDocument}
use Rattle.px_feed.specs.Cutting.{Leads, Stands, Standing, Cuts}
use Rattle.px_feed.specs.Effects.{IsItem, Does, IsFit, DoesFit}
use Rattle.px_feed.specs.Recordings.{HasRecorded, IsStillOpen}
use Rattle.px_feed.specs.Items.{Item, Showing, Stop, IsOpen, between, in_document, Outside, Skips, Brings, Starts, Misplaced, AtEnd, AtFault, outside, ShowsOutside, HasNone, IsWhole, Begins, Gives, bytes_in, most_bytes}
use Rattle.px_feed.proofs.Leading.{Opening, leads_skip, leads_bring, leads_document, ended, truncates, opening_push, goes_on_all, is_whole_document}

-- a number is not both at most and above
pub over : (n m : ℕ) → n ≤ m → m < n → ⊥
over n m l g = omega arith

-- bytes without a line are none
pub no_line : (bytes : List ℕ) → lines_of bytes ≡ [] → bytes ≡ []
no_line bytes e = sym (concat-lines_of bytes) ∙ ap concat e

-- one line more
pub lines_more : (bytes line : List ℕ) → is_whole bytes ≡ true → is_ended line ≡ true → lines_of (bytes ++ line) ≡ lines_of bytes ++ line ∷ []
lines_more bytes line w e =
    let (front, n, same) = ended_is line e in
    ap (λ l. lines_of (bytes ++ l)) same ∙ lines_push bytes front w n ∙ ap (λ l. lines_of bytes ++ l ∷ []) (sym same)

pub whole_more : (bytes line : List ℕ) → is_ended line ≡ true → is_whole (bytes ++ line) ≡ true
whole_more bytes line e = let (front, n, same) = ended_is line e in subst (λ l. is_whole (bytes ++ l) ≡ true) (sym same) (whole_push bytes front)

-- the sizes of the lines of a document behind others, and of one line more
pub size_more : (before lines : List (List ℕ)) (line : List ℕ) → bytes_in (before ++ lines) + length line ≤ most_bytes → bytes_in before + bytes_in (lines ++ line ∷ []) ≤ most_bytes
size_more before lines line fits =
    let a = sum_by-append length before lines in
    let b = sum_by_push length lines line in
    sum most_bytes (bytes_in (before ++ lines)) (bytes_in before) (bytes_in lines) (bytes_in (lines ++ line ∷ [])) (length line) a b fits
  where
    sum : (m x y z w l : ℕ) → x ≡ y + z → w ≡ z + l → x + l ≤ m → y + w ≤ m
    sum m x y z w l p q r = omega arith

pub size_before : (before lines : List (List ℕ)) (line : List ℕ) → bytes_in (before ++ lines) + length line ≤ most_bytes → bytes_in before + bytes_in lines ≤ most_bytes
size_before before lines line fits =
    let a = sum_by-append length before lines in sum most_bytes (bytes_in (before ++ lines)) (bytes_in before) (bytes_in lines) (length line) a fits
  where
    sum : (m x y z l : ℕ) → x ≡ y + z → x + l ≤ m → y + z ≤ m
    sum m x y z l p q = omega arith

-- a line outside documents that is fit and not misplaced has no fault
pub fine_outside : (before : List (List ℕ)) (line : List ℕ) → bytes_in before + length line ≤ most_bytes → IsFit line →
    (outside (without_end line) ≡ Misplaced → ⊥) → HasNone (ShowsOutside before line)
fine_outside before line size fit placed FeedLong s = over (bytes_in before + length line) most_bytes size s
fine_outside before line size fit placed (Doc LineLong) s = over (length (without_end line)) 1_048_576 fit.0 s
fine_outside before line size fit placed (Doc NotUtf8) s = s fit.1
fine_outside before line size fit placed (Doc NotHere) s = placed s
fine_outside before line size fit placed (Doc TooDeep) s = s
fine_outside before line size fit placed (Doc TooManyAttributes) s = s
fine_outside before line size fit placed (Doc TooBig) s = s
fine_outside before line size fit placed (Doc Truncated) s = s

-- what a line does
pub does_nothing : (x : Outside) → Does (Ok Nothing) x → x ≡ Skips
does_nothing Skips d = refl
does_nothing (Brings item) d = absurd d
does_nothing Starts d = absurd d
does_nothing Misplaced d = absurd d

pub does_give : (item : Given) (x : Outside) → Does (Ok (GivesItem item)) x → (brought : Item) × (x ≡ Brings brought) × IsItem item brought
does_give item Skips d = absurd d
does_give item (Brings brought) d = (brought, refl, d)
does_give item Starts d = absurd d
does_give item Misplaced d = absurd d

pub does_begin : (x : Outside) → Does (Ok BeginsDocument) x → x ≡ Starts
does_begin Skips d = absurd d
does_begin (Brings item) d = absurd d
does_begin Starts d = refl
does_begin Misplaced d = absurd d

-- between documents, behind one line more
outside_again : (document : Recorder) (before after : List (List ℕ)) (given more : List Item) → Stands document before [] given → Leads after more → Standing document after more
outside_again document before after given more s leads = record {
  before = after;
  inside = [];
  lines_are = sym (append-nil after);
  stands = record { leads = leads; whole = refl; recorded = s.recorded; begins = λ line rest e. absurd (cc); still_open = s.still_open };
}

-- what is known of the lines behind one that does nothing, or gives an item
pub skip_leads : (before : List (List ℕ)) (line : List ℕ) (given : List Item) → Leads before given → bytes_in before + length line ≤ most_bytes →
    DoesFit (Ok Nothing) line → Leads (before ++ line ∷ []) given
skip_leads before line given leads size (fit, does) =
    let e = does_nothing (outside (without_end line)) does in
    leads_skip before line given leads (fine_outside before line size fit (λ m. let f : Skips ≡ Misplaced = sym e ∙ m in absurd (cc))) e

pub bring_leads : (before : List (List ℕ)) (line : List ℕ) (given : List Item) (item : Given) → Leads before given → bytes_in before + length line ≤ most_bytes →
    DoesFit (Ok (GivesItem item)) line → (brought : Item) × IsItem item brought × Leads (before ++ line ∷ []) (given ++ brought ∷ [])
bring_leads before line given item leads size (fit, does) =
    let (brought, e, is) = does_give item (outside (without_end line)) does in
    let fine = fine_outside before line size fit (λ m. let f : Brings brought ≡ Misplaced = sym e ∙ m in absurd (cc)) in
    (brought, is, leads_bring before line given brought leads fine e)

pub stands_skip : (document : Recorder) (before : List (List ℕ)) (line : List ℕ) (given : List Item) → Stands document before [] given →
    bytes_in before + length line ≤ most_bytes → DoesFit (Ok Nothing) line → Standing document (before ++ line ∷ []) given
stands_skip document before line given s size does = outside_again document before (before ++ line ∷ []) given given s (skip_leads before line given s.leads size does)

pub stands_bring : (document : Recorder) (before : List (List ℕ)) (line : List ℕ) (given : List Item) (item : Given) → Stands document before [] given →
    bytes_in before + length line ≤ most_bytes → DoesFit (Ok (GivesItem item)) line →
    (brought : Item) × IsItem item brought × Standing document (before ++ line ∷ []) (given ++ brought ∷ [])
stands_bring document before line given item s size does =
    let (brought, is, leads) = bring_leads before line given item s.leads size does in
    (brought, is, outside_again document before (before ++ line ∷ []) given (given ++ brought ∷ []) s leads)

pub begins_here : (before : List (List ℕ)) (line : List ℕ) → bytes_in before + length line ≤ most_bytes → DoesFit (Ok BeginsDocument) line → Begins before line
begins_here before line size (fit, does) =
    let e = does_begin (outside (without_end line)) does in
    record { fine = fine_outside before line size fit (λ m. let f : Starts ≡ Misplaced = sym e ∙ m in absurd (cc)); starts = e }

-- no line of the document so far has a fault
pub fine_inside : (document : Recorder) (before : List (List ℕ)) (inside : List ℕ) (given : List Item) → Stands document before inside given →
    (k : ℕ) → k < length (lines_of inside) → IsFine (lines_of inside) k
fine_inside document before inside given s = s.recorded.fine

-- no lines have no fault
pub none_fine : AreFine []
none_fine k l = omega (arith, l)

-- the first line of the document that goes on
pub opening : (document : Recorder) (before : List (List ℕ)) (inside line : List ℕ) (rest : List (List ℕ)) (given : List Item) → Stands document before inside given →
    (inside ≡ [] → Begins before line) → Opening before (lines_of inside ++ line ∷ rest)
opening document before inside line rest given s one = opening_push before (lines_of inside) line rest (λ e. one (no_line inside e)) s.begins

-- no document has begun
pub stands_outside : (document : Recorder) (lines : List (List ℕ)) (given : List Item) → Standing document lines given → length document ≡ 0 → Stands document lines [] given
stands_outside document lines given s none =
    let empty : s.inside ≡ [] = nil_from_length s.inside (ap length (sym s.stands.recorded.bytes_are) ∙ none) in
    let same : s.before ≡ lines = sym (s.lines_are ∙ ap (λ bs. s.before ++ lines_of bs) empty ∙ append-nil s.before) in
    subst (λ ls. Stands document ls [] given) same (subst (λ bs. Stands document s.before bs given) empty s.stands)

-- a document has begun
pub has_begun : (document : Recorder) (before : List (List ℕ)) (inside : List ℕ) (given : List Item) → Stands document before inside given → 0 < length document → inside ≡ [] → ⊥
has_begun document before inside given s some e = let n : length document ≡ 0 = ap length (s.recorded.bytes_are ∙ e) in omega arith

-- lines up to the last, and one more
pub open_more : (lines : List (List ℕ)) (line : List ℕ) (j : ℕ) → ((j : ℕ) (root : Root) → j ≤ length lines → Spells (take j lines) root → ⊥) →
    ((root : Root) → Spells (lines ++ line ∷ []) root → ⊥) → (root : Root) → j ≤ length (lines ++ line ∷ []) → Spells (take j (lines ++ line ∷ [])) root → ⊥
open_more lines line j still last root l spells = on (place j (length lines) (rw length_push at l))
  where
    place : (j n : ℕ) → j ≤ n + 1 → (j ≤ n) ⊎ (n + 1 ≤ j)
    place j n l = grind arith

    on : (j ≤ length lines) ⊎ (length lines + 1 ≤ j) → ⊥
    on (inl m) = still j root m (subst (λ ls. Spells ls root) (take_lines lines (line ∷ []) j m) spells)
    on (inr m) = last root (subst (λ ls. Spells ls root) (take_all j (lines ++ line ∷ []) (rw length_push m)) spells)

-- the document goes on behind the line
pub stands_on : (old new : Recorder) (before : List (List ℕ)) (inside line : List ℕ) (given : List Item) → Stands old before inside given → is_ended line ≡ true →
    (inside ≡ [] → Begins before line) → HasRecorded new (inside ++ line) → IsStillOpen new → Standing new ((before ++ lines_of inside) ++ line ∷ []) given
stands_on old new before inside line given s ends one known still = record {
  before = before;
  inside = inside ++ line;
  lines_are = append_assoc before (lines_of inside) (line ∷ []) ∙ ap (λ ls. before ++ ls) (sym same);
  stands = record { leads = s.leads; whole = whole_more inside line ends; recorded = known; begins = begins; still_open = open_still };
}
  where
    same : lines_of (inside ++ line) ≡ lines_of inside ++ line ∷ []
    same = lines_more inside line s.whole ends

    begins : (first : List ℕ) (more : List (List ℕ)) → lines_of (inside ++ line) ≡ first ∷ more → Begins before first
    begins first more e =
        let o = opening old before inside line [] given s one in
        let f : (o.first ∷ o.more) ≡ first ∷ more = sym o.lines_are ∙ sym same ∙ e in
        let g : o.first ≡ first = cc in
        subst (λ line. Begins before line) g o.begins

    open_still : (j : ℕ) (root : Root) → j ≤ length (lines_of (inside ++ line)) → Spells (take j (lines_of (inside ++ line))) root → ⊥
    open_still j root l spells =
        open_more (lines_of inside) line j s.still_open
        (λ root spells. still root (subst (λ ls. Spells ls root) (sym (ap lines_of known.bytes_are ∙ same)) spells)) root
        (subst (λ ls. j ≤ length ls) same l) (subst (λ ls. Spells (take j ls) root) same spells)

nothing_open : (old : Recorder) (before : List (List ℕ)) (inside : List ℕ) (given : List Item) → Stands old before inside given →
    (j : ℕ) (root : Root) → j ≤ 0 → Spells (take j []) root → ⊥
nothing_open old before inside given s zero root l spells = s.still_open 0 root (omega arith) spells
nothing_open old before inside given s (suc j) root l spells = omega arith

-- the line closes the document
pub stands_closed : (old new : Recorder) (before : List (List ℕ)) (inside line : List ℕ) (given : List Item) (doc : docs.Doc) (root : Root) → Stands old before inside given → is_ended line ≡ true →
    (inside ≡ [] → Begins before line) → bytes_in (before ++ lines_of inside) + length line ≤ most_bytes → HasVerdict (inside ++ line) (IsTree root) → content doc ≡ inside ++ line →
    HasRecorded new [] → (brought : Item) × IsItem (Document doc) brought × Standing new ((before ++ lines_of inside) ++ line ∷ []) (given ++ brought ∷ [])
stands_closed old new before inside line given doc root s ends one fits v content_is known = (
  Showing root,
  subst (λ bs. HasVerdict bs (IsTree root)) (sym content_is) v,
  record {
    before = (before ++ lines_of inside) ++ line ∷ [];
    inside = [];
    lines_are = sym (append-nil ((before ++ lines_of inside) ++ line ∷ []));
    stands = record { leads = leads; whole = refl; recorded = known; begins = λ line rest e. absurd (cc); still_open = nothing_open old before inside given s };
  },
)
  where
    judged : Judges (lines_of inside ++ line ∷ []) (IsTree root)
    judged = subst (λ ls. Judges ls (IsTree root)) (lines_more inside line s.whole ends) v

    still : (j : ℕ) (other : Root) → j < length (lines_of inside ++ line ∷ []) → Spells (take j (lines_of inside ++ line ∷ [])) other → ⊥
    still j other l spells =
        let m = below j (length (lines_of inside)) (length (lines_of inside ++ line ∷ [])) (length_push (lines_of inside) line) l in
        s.still_open j other m (subst (λ ls. Spells ls other) (take_lines (lines_of inside) (line ∷ []) j m) spells)
      where
        below : (j n m : ℕ) → m ≡ n + 1 → j < m → j ≤ n
        below j n m e l = omega arith

    whole : IsWhole before (lines_of inside ++ line ∷ []) root
    whole = is_whole_document before (lines_of inside ++ line ∷ []) root judged.0 still judged.1 (size_more before (lines_of inside) line fits)

    leads : Leads ((before ++ lines_of inside) ++ line ∷ []) (given ++ Showing root ∷ [])
    leads =
        subst (λ ls. Leads ls (given ++ Showing root ∷ [])) (sym (append_assoc before (lines_of inside) (line ∷ [])))
        (leads_document before (lines_of inside ++ line ∷ []) given root s.leads (opening old before inside line [] given s one) whole)

-- what no line feed ends is at most one line
pub last_lines : (line : List ℕ) → has_no_feed line ≡ true → ((line ≡ []) × (lines_of line ≡ [])) ⊎ ((0 < length line) × (lines_of line ≡ line ∷ []))
last_lines [] n = inl (refl, refl)
last_lines (b ∷ line) n = inr (omega arith, open_line (b ∷ line) n (omega arith))

some_opening : (before lines : List (List ℕ)) → (lines ≡ [] → ⊥) → ((first : List ℕ) (more : List (List ℕ)) → lines ≡ first ∷ more → Begins before first) → Opening before lines
some_opening before [] none begins = absurd (none refl)
some_opening before (first ∷ more) none begins = record { first = first; more = more; lines_are = refl; begins = begins first more refl }

-- The document ends with the last line, or with the line feed before its end.
abbrev pub MayEnd : (before : List (List ℕ)) → (inside line : List ℕ) → Type 0
MayEnd before inside line = inside ≡ [] → (0 < length line) × Begins before line

pub opening_end : (document : Recorder) (before : List (List ℕ)) (inside line : List ℕ) (given : List Item) → Stands document before inside given → has_no_feed line ≡ true →
    MayEnd before inside line → Opening before (lines_of inside ++ lines_of line)
opening_end document before inside line given s n may = on (last_lines line n)
  where
    on : ((line ≡ []) × (lines_of line ≡ [])) ⊎ ((0 < length line) × (lines_of line ≡ line ∷ [])) → Opening before (lines_of inside ++ lines_of line)
    on (inl (empty, none)) =
        let some : lines_of inside ≡ [] → ⊥ = λ e. let m = (may (no_line inside e)).0 in let z : length line ≡ 0 = ap length empty in omega arith in
        subst (λ ls. Opening before ls) (sym (ap (λ ls. lines_of inside ++ ls) none ∙ append-nil (lines_of inside))) (some_opening before (lines_of inside) some s.begins)
    on (inr (some, one)) =
        subst (λ ls. Opening before (lines_of inside ++ ls)) (sym one) (opening document before inside line [] given s (λ e. (may e).1))

pub size_end : (before lines : List (List ℕ)) (line : List ℕ) → bytes_in (before ++ lines) + length line ≤ most_bytes → bytes_in before + bytes_in (lines ++ lines_of line) ≤ most_bytes
size_end before lines line fits =
    let a = sum_by-append length before lines in
    let b = sum_by-append length lines (lines_of line) in
    sum most_bytes (bytes_in (before ++ lines)) (bytes_in before) (bytes_in lines) (bytes_in (lines ++ lines_of line)) (bytes_in (lines_of line)) (length line) a b (sizes line) fits
  where
    sum : (m x y z w v l : ℕ) → x ≡ y + z → w ≡ z + v → v ≡ l → x + l ≤ m → y + w ≤ m
    sum m x y z w v l p q r t = omega arith

-- the lines end the document
pub ends_tree : (old : Recorder) (before : List (List ℕ)) (inside line : List ℕ) (given : List Item) (doc : docs.Doc) (root : Root) → Stands old before inside given → has_no_feed line ≡ true →
    MayEnd before inside line → bytes_in (before ++ lines_of inside) + length line ≤ most_bytes → HasVerdict (inside ++ line) (IsTree root) → content doc ≡ inside ++ line →
    (brought : Item) × IsItem (Document doc) brought × Gives [] ((before ++ lines_of inside) ++ lines_of line) (given ++ brought ∷ []) AtEnd
ends_tree old before inside line given doc root s n may fits v content_is = (
  Showing root,
  subst (λ bs. HasVerdict bs (IsTree root)) (sym content_is) v,
  subst (λ ls. Gives [] ls (given ++ Showing root ∷ []) AtEnd) (sym (append_assoc before (lines_of inside) (lines_of line)))
      (ended (before ++ (lines_of inside ++ lines_of line)) (given ++ Showing root ∷ []) leads),
)
  where
    judged : Judges (lines_of inside ++ lines_of line) (IsTree root)
    judged = subst (λ ls. Judges ls (IsTree root)) (lines_whole inside line s.whole) v

    few : ((line ≡ []) × (lines_of line ≡ [])) ⊎ ((0 < length line) × (lines_of line ≡ line ∷ [])) → length (lines_of inside ++ lines_of line) ≤ length (lines_of inside) + 1
    few (inl (empty, none)) = rw (none, append-nil) (omega arith)
    few (inr (some, one)) = rw (one, length_push) (omega arith)

    still : (j : ℕ) (other : Root) → j < length (lines_of inside ++ lines_of line) → Spells (take j (lines_of inside ++ lines_of line)) other → ⊥
    still j other l spells =
        let m = below j (length (lines_of inside)) (length (lines_of inside ++ lines_of line)) (few (last_lines line n)) l in
        s.still_open j other m (subst (λ ls. Spells ls other) (take_lines (lines_of inside) (lines_of line) j m) spells)
      where
        below : (j n m : ℕ) → m ≤ n + 1 → j < m → j ≤ n
        below j n m e l = omega arith

    whole : IsWhole before (lines_of inside ++ lines_of line) root
    whole = is_whole_document before (lines_of inside ++ lines_of line) root judged.0 still judged.1 (size_end before (lines_of inside) line fits)

    leads : Leads (before ++ (lines_of inside ++ lines_of line)) (given ++ Showing root ∷ [])
    leads = leads_document before (lines_of inside ++ lines_of line) given root s.leads (opening_end old before inside line given s n may) whole

-- the number of all lines
pub all_lines : (lines : List (List ℕ)) (line : List ℕ) (counted n : ℕ) → has_no_feed line ≡ true → counted ≡ length lines → (length line ≡ 0 → n ≡ counted) → (0 < length line → n ≡ counted + 1) →
    n ≡ length (lines ++ lines_of line)
all_lines lines line counted n no_feed e none some = on (last_lines line no_feed)
  where
    on : ((line ≡ []) × (lines_of line ≡ [])) ⊎ ((0 < length line) × (lines_of line ≡ line ∷ [])) → n ≡ length (lines ++ lines_of line)
    on (inl (empty, zero_lines)) = none (ap length empty) ∙ e ∙ sym (ap (λ ls. length (lines ++ ls)) zero_lines ∙ ap length (append-nil lines))
    on (inr (many, one)) = some many ∙ ap (λ k. k + 1) e ∙ sym (ap (λ ls. length (lines ++ ls)) one ∙ length_push lines line)

-- the same of what follows from what is known
pub cuts_weaker : (result : Result (Option Given) Failure) (Known Wanted : List Item → Type 0) (lines : List (List ℕ)) (given : List Item) → ((g : List Item) → Known g → Wanted g) →
    Cuts Known result lines given → Cuts Wanted result lines given
cuts_weaker (Ok None) Known Wanted lines given f k = f given k
cuts_weaker (Ok (Some item)) Known Wanted lines given f (brought, is, k) = (brought, is, f (given ++ brought ∷ []) k)
cuts_weaker (Err failure) Known Wanted lines given f k = k

-- the place of a line behind lines: between documents, or in one
pub data Placed (document : Recorder) (lines : List (List ℕ)) (given : List Item) : Type 0 where
  outside_them : Stands document lines [] given → Placed document lines given
  inside_one : (before : List (List ℕ)) (inside : List ℕ) → lines ≡ before ++ lines_of inside → Stands document before inside given → (inside ≡ [] → ⊥) → Placed document lines given

pub placed : (document : Recorder) (lines : List (List ℕ)) (given : List Item) → Standing document lines given → Placed document lines given
placed document lines given s = on s.inside refl
  where
    on : (bytes : List ℕ) → s.inside ≡ bytes → Placed document lines given
    on [] e = outside_them (stands_outside document lines given s (ap length (s.stands.recorded.bytes_are ∙ e)))
    on (b ∷ bytes) e = inside_one s.before s.inside s.lines_are s.stands (λ none. let f : (b ∷ bytes) ≡ [] = sym e ∙ none in absurd (cc))

-- the lines so far give whole items, and end between two of them or inside a document
pub whole_lines : (document : Recorder) (lines : List (List ℕ)) (given : List Item) → Standing document lines given → bytes_in lines ≤ most_bytes →
    (stop : Stop) × Gives [] lines given stop × IsOpen stop
whole_lines document lines given s fits = on (placed document lines given s)
  where
    on : Placed document lines given → (stop : Stop) × Gives [] lines given stop × IsOpen stop
    on (outside_them t) = (AtEnd, ended lines given t.leads, between)
    on (inside_one before inside lines_are t some) =
        let size : bytes_in before + bytes_in (lines_of inside) ≤ most_bytes = subst (λ n. n ≤ most_bytes) (ap bytes_in lines_are ∙ sum_by-append length before (lines_of inside)) fits in
        let g = truncates before (lines_of inside) given (length before + length (lines_of inside)) t.leads (some_opening before (lines_of inside) (λ e. some (no_line inside e)) t.begins)
        (goes_on_all before (lines_of inside) (fine_inside document before inside given t) t.still_open size) refl in
        (AtFault (length before + length (lines_of inside)) (Doc Truncated), subst (λ ls. Gives [] ls given (AtFault (length before + length (lines_of inside)) (Doc Truncated))) (sym lines_are) g, in_document)
