-- Every feed has items and a stop, and so an output.
use Rattle.std.proofs.Common.{◌≡◌, ℕ, zero, suc, ◌+◌, ◌<◌, ◌≤◌, ◌⊎◌, inl, inr, List, [], ◌∷◌, ◌++◌, length, take, Result, Ok, Err, refl, ap, sym, ◌∙◌, subst, append_assoc, append-nil, length-append, IsUtf8, arith}
use Rattle.std.proofs.lemmas.Bool.{cases_lt}
use Rattle.std.proofs.lemmas.List.{length_push}
use Rattle.px_text.specs.Nodes.{Root}
use Rattle.px_reader.specs.Lines.{Line, Opens, lines_of, without_end}
use Rattle.px_reader.specs.Machine as machine
use Rattle.px_reader.specs.Spelling.{Spells, gives}
use Rattle.px_reader.specs.Verdicts.{IsFine, Verdict, IsFaulty, IsTree, Judges}
use Rattle.px_reader.specs.declared.fault.DocKind.{DocKind}
use Rattle.px_reader.specs.declared.fault.DocKind.TheVariants.{NotHere, NotUtf8, LineLong, Truncated}
use Rattle.px_reader.proofs.Decided.{judged_from, utf8_or_not}
use Rattle.px_reader.proofs.Judged.{judged_none}
use Rattle.px_reader.proofs.LineCuts.{take_lines}
use Rattle.px_reader.proofs.Verdicts.{Faulty, Ends, split}
use Rattle.px_xpath.specs.Filters.{Way}
use Rattle.px_xpath.specs.Faults.{HasFault, IsText}
use Rattle.px_xpath.specs.declared.fault.FilterFault.{FilterFault}
use Rattle.px_xpath.proofs.Total.{read-or-refused}
use Rattle.px_feed.specs.declared.line.OutLine.{OutLine}
use Rattle.px_feed.specs.declared.status.Status.{Status}
use Rattle.px_feed.specs.declared.line.FeedKind.TheVariants.{Doc, FeedLong}
use Rattle.px_feed.specs.Items.{Item, Adding, Removing, Replacing, Showing, Stop, AtEnd, AtFault, Outside, Skips, Brings, Starts, Misplaced, outside, GoesOn, IsWhole, Begins, Gives, no_lines, skips, brings, outside_faulty, bytes_in, most_bytes, HasItems}
use Rattle.px_feed.specs.Matches.{Parses}
use Rattle.px_feed.specs.Outputs.{Ask, AsksAdd, AsksDrop, AsksReplace, AsksMatches, Asks, AllAsk, AreLines, Out, id_of, lines_for, lines_at, text_of, status_of}
use Rattle.px_feed.proofs.Leading.{Opening, gives_document, gives_fault, gives_truncated, goes_on, goes_on_all, is_whole_document}
use Rattle.px_feed.proofs.Cuttings.{fine_outside, open_more}
use Rattle.px_feed.proofs.Faults.{first_long, first_not_utf8, first_not_here, first_inside, first_big}

-- behind the lines before, the lines give some items and stop
abbrev pub GivesSome : (before lines : List (List ℕ)) → Type 0
GivesSome before lines = (items : List Item) × (stop : Stop) × Gives before lines items stop

-- lines of a document behind others: none has a fault, its root is still open, and they are within the feed
record Going (before lines : List (List ℕ)) : Type 0 where
  fine : (k : ℕ) → k < length lines → IsFine lines k
  still_open : (j : ℕ) (root : Root) → j ≤ length lines → Spells (take j lines) root → ⊥
  fits : bytes_in before + bytes_in lines ≤ most_bytes

-- no line spells no tree
no_tree : (root : Root) → Spells [] root → ⊥
no_tree root d = on d.before d.whole
  where
    on : (front : List Line) → [] ≡ front ++ (Opens root.name ∷ gives root.attributes ++ d.body) → ⊥
    on [] e = absurd (cc)
    on (line ∷ front) e = absurd (cc)

nothing_yet : (before : List (List ℕ)) → bytes_in before ≤ most_bytes → Going before []
nothing_yet before fits = record { fine = λ k l. absurd (omega arith); still_open = none; fits = same most_bytes (bytes_in before) fits }
  where
    none : (j : ℕ) (root : Root) → j ≤ 0 → Spells (take j []) root → ⊥
    none zero root l spells = no_tree root spells
    none (suc j) root l spells = omega arith

    same : (m b : ℕ) → b ≤ m → b + 0 ≤ m
    same m b l = omega arith

-- lines of a document, the first of which is the one that begins it
opened : (before taken : List (List ℕ)) (line : List ℕ) (rest more : List (List ℕ)) (first : List ℕ) (lines : List (List ℕ)) → taken ++ line ∷ rest ≡ first ∷ lines →
    Begins before first → Opening before (taken ++ line ∷ more)
opened before [] line rest more first lines e b = let same : line ≡ first = cc in record { first = line; more = more; lines_are = refl; begins = subst (λ l. Begins before l) (sym same) b }
opened before (t ∷ taken) line rest more first lines e b =
    let same : t ≡ first = cc in record { first = t; more = taken ++ line ∷ more; lines_are = refl; begins = subst (λ l. Begins before l) (sym same) b }

-- the line ends the document
closes : (before taken : List (List ℕ)) (line : List ℕ) (rest : List (List ℕ)) (root : Root) → Going before taken → Opening before (taken ++ line ∷ []) →
    bytes_in before + bytes_in (taken ++ line ∷ []) ≤ most_bytes → Judges (taken ++ line ∷ []) (IsTree root) → GivesSome (before ++ (taken ++ line ∷ [])) rest →
    GivesSome before (taken ++ line ∷ rest)
closes before taken line rest root g o fits j (items, stop, behind) = (
  Showing root ∷ items,
  stop,
  subst (λ ls. Gives before ls (Showing root ∷ items) stop) (append_assoc taken (line ∷ []) rest) (gives_document before (taken ++ line ∷ []) rest root items stop o whole behind),
)
  where
    still : (j : ℕ) (other : Root) → j < length (taken ++ line ∷ []) → Spells (take j (taken ++ line ∷ [])) other → ⊥
    still j other l spells =
        let m = below j (length taken) (length (taken ++ line ∷ [])) (length_push taken line) l in
        g.still_open j other m (subst (λ ls. Spells ls other) (take_lines taken (line ∷ []) j m) spells)
      where
        below : (j n m : ℕ) → m ≡ n + 1 → j < m → j ≤ n
        below j n m e l = omega arith

    whole : IsWhole before (taken ++ line ∷ []) root
    whole = is_whole_document before (taken ++ line ∷ []) root j.0 still j.1 fits

inside_them : (taken : List (List ℕ)) (line : List ℕ) (rest : List (List ℕ)) → length taken < length (taken ++ line ∷ rest)
inside_them taken line rest = rw length-append (omega arith)

-- what comes of a line of a document
document_line : (before taken : List (List ℕ)) (line : List ℕ) (rest : List (List ℕ)) → Going before taken → ((more : List (List ℕ)) → Opening before (taken ++ line ∷ more)) →
    GivesSome (before ++ (taken ++ line ∷ [])) rest → (Going before (taken ++ line ∷ []) → GivesSome before (taken ++ line ∷ rest)) → GivesSome before (taken ++ line ∷ rest)
document_line before taken line rest g o behind next = sized (cases_lt most_bytes (bytes_in before + bytes_in (taken ++ line ∷ [])))
  where
    so_far : GoesOn before (taken ++ line ∷ rest) (length taken)
    so_far = goes_on before taken (line ∷ rest) g.fine g.still_open g.fits

    faulty : (n : ℕ) (kind : DocKind) → bytes_in before + bytes_in (taken ++ line ∷ []) ≤ most_bytes →
        Faulty (taken ++ line ∷ []) n kind ⊎ ((kind ≡ Truncated) × Ends (taken ++ line ∷ []) n) → GivesSome before (taken ++ line ∷ rest)
    faulty n kind fits (inl f) = (
      [],
      AtFault (length before + length taken + 1) (Doc kind),
      gives_fault before (taken ++ line ∷ rest) (length taken) (Doc kind) (o rest) (inside_them taken line rest) so_far (first_inside before taken line rest n kind g.fine fits f),
    )
    faulty n kind fits (inr (e, ends)) = next (record { fine = ends.0; still_open = λ j root. open_more taken line j g.still_open ends.1 root; fits = fits })

    judged : (verdict : Verdict) → bytes_in before + bytes_in (taken ++ line ∷ []) ≤ most_bytes → Judges (taken ++ line ∷ []) verdict → GivesSome before (taken ++ line ∷ rest)
    judged (IsTree root) fits j = closes before taken line rest root g (o []) fits j behind
    judged (IsFaulty n kind) fits j = faulty n kind fits (split (taken ++ line ∷ []) n kind j)

    sized : (most_bytes < bytes_in before + bytes_in (taken ++ line ∷ [])) ⊎ (bytes_in before + bytes_in (taken ++ line ∷ []) ≤ most_bytes) → GivesSome before (taken ++ line ∷ rest)
    sized (inl long) = (
      [],
      AtFault (length before + length taken + 1) FeedLong,
      gives_fault before (taken ++ line ∷ rest) (length taken) FeedLong (o rest) (inside_them taken line rest) so_far (first_big before taken line rest long),
    )
    sized (inr fits) = let v = judged_from (taken ++ line ∷ []) [] machine.Before [] judged_none in judged v.0 fits v.1

-- what comes behind the first line of a document: fewer lines give some items and stop
abbrev Fewer : List (List ℕ) → Type 0
Fewer lines = (before rest : List (List ℕ)) → length rest ≤ length lines → GivesSome before rest

-- the lines that are left behind some of a document
fewer : (taken : List (List ℕ)) (line : List ℕ) (rest : List (List ℕ)) (first : List ℕ) (lines : List (List ℕ)) → taken ++ line ∷ rest ≡ first ∷ lines → length rest ≤ length lines
fewer taken line rest first lines e = sum (length taken) (length rest) (length lines) (length (taken ++ line ∷ rest)) (length-append taken (line ∷ rest)) (ap length e)
  where
    sum : (t r l a : ℕ) → a ≡ t + suc r → a ≡ suc l → r ≤ l
    sum t r l a p q = omega arith

document_from : (rest before taken : List (List ℕ)) (first : List ℕ) (lines : List (List ℕ)) → taken ++ rest ≡ first ∷ lines → Begins before first → Fewer lines → Going before taken →
    GivesSome before (taken ++ rest)
document_from [] before taken first lines e b next g = subst (λ ls. GivesSome before ls) (sym (append-nil taken)) whole
  where
    whole : GivesSome before taken
    whole = (
      [],
      AtFault (length before + length taken) (Doc Truncated),
      gives_truncated before taken (record { first = first; more = lines; lines_are = sym (append-nil taken) ∙ e; begins = b }) (goes_on_all before taken g.fine g.still_open g.fits),
    )
document_from (line ∷ rest) before taken first lines e b next g =
    document_line before taken line rest g (λ more. opened before taken line rest more first lines e b) (next (before ++ (taken ++ line ∷ [])) rest (fewer taken line rest first lines e))
    (λ on. subst (λ ls. GivesSome before ls) (append_assoc taken (line ∷ []) rest)
    (document_from rest before (taken ++ line ∷ []) first lines (append_assoc taken (line ∷ []) rest ∙ e) b next on))

-- what comes of a line outside documents
outside_line : (before : List (List ℕ)) (line : List ℕ) (lines : List (List ℕ)) → Fewer lines → GivesSome before (line ∷ lines)
outside_line before line lines next = sized (cases_lt most_bytes (bytes_in before + length line))
  where
    behind : GivesSome (before ++ line ∷ []) lines
    behind = next (before ++ line ∷ []) lines (omega arith)

    does : (x : Outside) → bytes_in before + length line ≤ most_bytes → (length (without_end line) ≤ 1_048_576) × IsUtf8 line → outside (without_end line) ≡ x → GivesSome before (line ∷ lines)
    does Skips size fit e =
        (behind.0, behind.1, skips (fine_outside before line size fit (λ m. let f : Skips ≡ Misplaced = sym e ∙ m in absurd (cc))) e behind.2)
    does (Brings item) size fit e =
        (item ∷ behind.0, behind.1, brings (fine_outside before line size fit (λ m. let f : Brings item ≡ Misplaced = sym e ∙ m in absurd (cc))) e behind.2)
    does Starts size fit e =
        let fine = fine_outside before line size fit (λ m. let f : Starts ≡ Misplaced = sym e ∙ m in absurd (cc)) in
        document_from (line ∷ lines) before [] line lines refl (record { fine = fine; starts = e }) next (nothing_yet before (within most_bytes (bytes_in before) (length line) size))
      where
        within : (m b l : ℕ) → b + l ≤ m → b ≤ m
        within m b l s = omega arith
    does Misplaced size fit e = ([], AtFault (length before + 1) (Doc NotHere), outside_faulty (first_not_here before line size fit e))

    text : bytes_in before + length line ≤ most_bytes → length (without_end line) ≤ 1_048_576 → IsUtf8 line ⊎ (IsUtf8 line → ⊥) → GivesSome before (line ∷ lines)
    text size short (inl utf8) = does (outside (without_end line)) size (short, utf8) refl
    text size short (inr bad) = ([], AtFault (length before + 1) (Doc NotUtf8), outside_faulty (first_not_utf8 before line size short bad))

    long : bytes_in before + length line ≤ most_bytes → (1_048_576 < length (without_end line)) ⊎ (length (without_end line) ≤ 1_048_576) → GivesSome before (line ∷ lines)
    long size (inl l) = ([], AtFault (length before + 1) (Doc LineLong), outside_faulty (first_long before line size l))
    long size (inr short) = text size short (utf8_or_not line)

    sized : (most_bytes < bytes_in before + length line) ⊎ (bytes_in before + length line ≤ most_bytes) → GivesSome before (line ∷ lines)
    sized (inl l) = ([], AtFault (length before + 1) FeedLong, outside_faulty (l, λ other r s. absurd (omega arith)))
    sized (inr size) = long size (cases_lt 1_048_576 (length (without_end line)))

-- so many lines at most give some items and stop
at_most : (n : ℕ) (before lines : List (List ℕ)) → length lines ≤ n → GivesSome before lines
at_most n before [] l = ([], AtEnd, no_lines)
at_most zero before (line ∷ lines) l = absurd (omega arith)
at_most (suc n) before (line ∷ lines) l = outside_line before line lines (λ behind rest m. at_most n behind rest (omega arith))

pub gives-some : (before lines : List (List ℕ)) → (items : List Item) × (stop : Stop) × Gives before lines items stop
gives-some before lines = at_most (length lines) before lines (omega arith)

-- a text is read or refused
parses_some : (text : List ℕ) → (parsed : Result Way FilterFault) × Parses text parsed
parses_some text = on (read-or-refused text)
  where
    on : ((filter : Way) × IsText text filter) ⊎ ((fault : FilterFault) × HasFault text fault) → (parsed : Result Way FilterFault) × Parses text parsed
    on (inl (filter, is)) = (Ok filter, is)
    on (inr (fault, has)) = (Err fault, has)

ask_some : (item : Item) → (ask : Ask) × Asks item ask
ask_some (Adding text) = let (parsed, p) = parses_some text in (AsksAdd parsed, p)
ask_some (Removing text) = (AsksDrop (id_of text), refl)
ask_some (Replacing name text) = let (parsed, p) = parses_some text in (AsksReplace (id_of name) parsed, (refl, p))
ask_some (Showing root) = (AsksMatches root, refl)

pub asks-some : (items : List Item) → (asks : List Ask) × AllAsk items asks
asks-some [] = ([], tt)
asks-some (item ∷ items) =
    let (ask, a) = ask_some item in
    let (asks, all) = asks-some items in
    (ask ∷ asks, (a, all))

pub lines-some : (items : List Item) → (lines : List OutLine) × AreLines items lines
lines-some items = let (asks, a) = asks-some items in (lines_for [] asks, record { asks = asks; asked = a; lines_are = refl })

-- the output of items and of how they stop
pub out-of : (bytes : List ℕ) (items : List Item) (lines : List OutLine) (stop : Stop) → HasItems bytes items stop → AreLines items lines →
    Out bytes (text_of (lines ++ lines_at stop)) (status_of (lines ++ lines_at stop))
out-of bytes items lines stop has are = record { items = items; stop = stop; lines = lines; has_items = has; are_lines = are; written = refl; ended = refl }

pub out-some : (bytes : List ℕ) → (text : List ℕ) × (status : Status) × Out bytes text status
out-some bytes =
    let (items, stop, has) = gives-some [] (lines_of bytes) in
    let (lines, are) = lines-some items in
    (text_of (lines ++ lines_at stop), status_of (lines ++ lines_at stop), out-of bytes items lines stop has are)
