-- A feed has fewer items than bytes.
use Rattle.std.proofs.Common.{◌≡◌, ℕ, suc, ◌+◌, ◌<◌, ◌≤◌, ◌⊎◌, inl, inr, List, [], ◌∷◌, ◌++◌, length, take, ap, sym, ◌∙◌, subst, Option, arith}
use Rattle.std.proofs.lemmas.Bool.{cases_lt}
use Rattle.std.proofs.lemmas.List.{take_all}
use Rattle.std.proofs.lemmas.List.Sums.{sum_by-append, sum_by-cons}
use Rattle.px_reader.specs.Lines.{without_end}
use Rattle.px_feed.specs.declared.line.FeedKind.TheVariants.{FeedLong}
use Rattle.px_feed.specs.Items.{Item, Stop, Outside, Skips, Brings, Starts, outside, ShowsOutside, ShowsInside, HasNone, Gives, no_lines, skips, brings, outside_faulty, document, inside_faulty, truncated, bytes_in, most_bytes}
use Rattle.px_feed.specs.Progress.{Progress}
use Rattle.px_feed.specs.Taking.{HasTaken}
use Rattle.px_feed.proofs.Leading.{ended}

-- a line that does something has a byte
some_byte : (line : List ℕ) (x : Outside) → outside (without_end line) ≡ x → (x ≡ Skips → ⊥) → 0 < length line
some_byte [] x e n = absurd (n (sym e))
some_byte (b ∷ line) x e n = omega arith

within : (m n : ℕ) → (m < n → ⊥) → n ≤ m
within m n none = on (cases_lt m n)
  where
    on : (m < n) ⊎ (n ≤ m) → n ≤ m
    on (inl l) = absurd (none l)
    on (inr l) = l

-- a line outside documents is within the feed
line_within : (before : List (List ℕ)) (line : List ℕ) → HasNone (ShowsOutside before line) → bytes_in (before ++ line ∷ []) ≤ most_bytes
line_within before line fine = subst (λ n. n ≤ most_bytes) (sym size) (within most_bytes (bytes_in before + length line) (fine FeedLong))
  where
    size : bytes_in (before ++ line ∷ []) ≡ bytes_in before + length line
    size = sum_by-append length before (line ∷ []) ∙ ap (λ n. bytes_in before + n) (sum_by-cons length line [] ∙ same (length line))
      where
        same : (n : ℕ) → n + 0 ≡ n
        same n = omega arith

-- the lines of a document are within the feed
document_within : (before lines : List (List ℕ)) (line : List ℕ) → ((j : ℕ) → j < length (line ∷ lines) → HasNone (ShowsInside before (line ∷ lines) j)) →
    bytes_in (before ++ line ∷ lines) ≤ most_bytes
document_within before lines line fine =
    subst (λ n. n ≤ most_bytes) (sym (sum_by-append length before (line ∷ lines)))
    (subst (λ ls. bytes_in before + bytes_in ls ≤ most_bytes) (take_all (length lines + 1) (line ∷ lines) (omega arith))
    (within most_bytes (bytes_in before + bytes_in (take (length lines + 1) (line ∷ lines))) (fine (length lines) (omega arith) FeedLong)))

-- with one line more there may be one item more
one_more : (m b l s n : ℕ) → s ≡ b + l → 0 < l → s + n ≤ m → b + suc n ≤ m
one_more m b l s n e some few = omega arith

-- items take bytes behind those of the lines before
few_items : {before lines : List (List ℕ)} {items : List Item} {stop : Stop} → Gives before lines items stop → bytes_in before ≤ most_bytes → bytes_in before + length items ≤ most_bytes
few_items no_lines fits = omega arith
few_items (skips {before = before} {line = line} {items = items} fine e g) fits =
    let ih = few_items g (line_within before line fine) in
    less most_bytes (bytes_in before) (bytes_in (before ++ line ∷ [])) (bytes_in (line ∷ [])) (length items) (sum_by-append length before (line ∷ [])) ih
  where
    less : (m b s l n : ℕ) → s ≡ b + l → s + n ≤ m → b + n ≤ m
    less m b s l n e few = omega arith
few_items (brings {before = before} {line = line} {item = item} {items = items} fine e g) fits =
    let ih = few_items g (line_within before line fine) in
    one_more most_bytes (bytes_in before) (bytes_in (line ∷ [])) (bytes_in (before ++ line ∷ [])) (length items) (sum_by-append length before (line ∷ []))
    (more_bytes line [] (some_byte line (Brings item) e (λ s. absurd (cc)))) ih
  where
    more_bytes : (line : List ℕ) (lines : List (List ℕ)) → 0 < length line → 0 < bytes_in (line ∷ lines)
    more_bytes line lines some = rw sum_by-cons (omega arith)
few_items (outside_faulty first) fits = omega arith
few_items (document {before = before} {document = lines} {line = line} {items = items} begins whole g) fits =
    let ih = few_items g (document_within before lines line whole.fine) in
    one_more most_bytes (bytes_in before) (bytes_in (line ∷ lines)) (bytes_in (before ++ line ∷ lines)) (length items) (sum_by-append length before (line ∷ lines))
    (more_bytes (some_byte line Starts begins.starts (λ s. absurd (cc)))) ih
  where
    more_bytes : 0 < length line → 0 < bytes_in (line ∷ lines)
    more_bytes some = rw sum_by-cons (omega arith)
few_items (inside_faulty k begins l on first) fits = omega arith
few_items (truncated begins on) fits = omega arith

at_most : (m n : ℕ) → 0 + n ≤ m → n ≤ m
at_most m n l = omega arith

-- a feed gives no more items than it may have bytes
pub few-items : (items : Progress) (left : Option (List ℕ)) (bytes : List ℕ) (given : List Item) → HasTaken items left bytes given → length given ≤ most_bytes
few-items items left bytes given (inl far) =
    let s = far.joined.cut.standing in at_most most_bytes (length given) (few_items (ended s.before given s.stands.leads) (omega arith))
few-items items left bytes given (inr (done, spent, has)) = at_most most_bytes (length given) (few_items has (omega arith))
