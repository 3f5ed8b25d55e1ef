-- How bytes are cut into lines, and lines across pieces.
use Rattle.std.proofs.Common.{◌≡◌, ℕ, suc, ◌+◌, ◌≤◌, ◌<◌, Bool, true, false, ◌&&◌, not, List, [], ◌∷◌, ◌++◌, length, get_or, take, ◌-◌, refl, ap, sym, ◌∙◌, ◌==◌, if◌then◌else◌, inl, inr, ◌⊎◌, append_assoc, length-append, arith}
use Rattle.std.proofs.lemmas.Bool.{and_parts, not-true}
use Rattle.std.specs.Cmp.Derive.{both_true}
use Rattle.std.specs.List.{concat, sum_by}
use Rattle.std.proofs.lemmas.Bool.Decides.{eqb_tells}
use Rattle.std.proofs.lemmas.List.{take-append-le, take_at, take_all, take_more, length_push}
use Rattle.std.proofs.lemmas.List.Sums.{sum_by-cons}
use Rattle.px_reader.specs.Lines.{has_no_feed, is_whole, is_ended, lines_of, onto_first, without_end}

-- the bytes without the CR that they may end with
abbrev pub without_cr : List ℕ → List ℕ
without_cr [] = []
without_cr (b ∷ []) = if b == 13 then [] else b ∷ []
without_cr (b ∷ c ∷ rest) = b ∷ without_cr (c ∷ rest)

-- there is a line, and a byte before the first line leaves the others
has_line : (a : List ℕ) → (line : List ℕ) × (lines : List (List ℕ)) × (lines_of (a ++ 10 ∷ []) ≡ line ∷ lines)
has_line [] = (10 ∷ [], [], refl)
has_line (x ∷ a) = let (line, lines, e) = has_line a in with_test (x == 10) line lines e
  where
    with_test : (t : Bool) (line : List ℕ) (lines : List (List ℕ)) → lines_of (a ++ 10 ∷ []) ≡ line ∷ lines →
        (line : List ℕ) × (lines : List (List ℕ)) × ((if t then (10 ∷ []) ∷ lines_of (a ++ 10 ∷ []) else onto_first x (lines_of (a ++ 10 ∷ []))) ≡ line ∷ lines)
    with_test true line lines e = (10 ∷ [], lines_of (a ++ 10 ∷ []), refl)
    with_test false line lines e = (x ∷ line, lines, rw e refl)

-- bytes behind a line feed begin a line
pub lines_ended : (a b : List ℕ) → lines_of (a ++ 10 ∷ b) ≡ lines_of (a ++ 10 ∷ []) ++ lines_of b
lines_ended [] b = refl
lines_ended (x ∷ a) b = let (line, lines, e) = has_line a in with_test (x == 10) line lines e (lines_ended a b)
  where
    with_test : (t : Bool) (line : List ℕ) (lines : List (List ℕ)) → lines_of (a ++ 10 ∷ []) ≡ line ∷ lines → lines_of (a ++ 10 ∷ b) ≡ lines_of (a ++ 10 ∷ []) ++ lines_of b →
        (if t then (10 ∷ []) ∷ lines_of (a ++ 10 ∷ b) else onto_first x (lines_of (a ++ 10 ∷ b)))
        ≡ (if t then (10 ∷ []) ∷ lines_of (a ++ 10 ∷ []) else onto_first x (lines_of (a ++ 10 ∷ []))) ++ lines_of b
    with_test true line lines e ih = ap (λ ls. (10 ∷ []) ∷ ls) ih
    with_test false line lines e ih = rw (ih, e) refl

-- whole bytes are none, or have a line feed at their end
pub whole_ends : (bytes : List ℕ) → is_whole bytes ≡ true → (bytes ≡ []) ⊎ ((front : List ℕ) × (bytes ≡ front ++ 10 ∷ []))
whole_ends [] w = inl refl
whole_ends (b ∷ []) w = elim (eqb_tells b 10) [ inl p ↦ inr ([], ap (λ x. x ∷ []) p.1) | inr p ↦ absurd (let f : false ≡ true = sym p.0 ∙ w in cc) ]
whole_ends (b ∷ c ∷ bytes) w = on (whole_ends (c ∷ bytes) w)
  where
    on : ((c ∷ bytes) ≡ []) ⊎ ((front : List ℕ) × ((c ∷ bytes) ≡ front ++ 10 ∷ [])) → ((b ∷ c ∷ bytes) ≡ []) ⊎ ((front : List ℕ) × ((b ∷ c ∷ bytes) ≡ front ++ 10 ∷ []))
    on (inl e) = absurd (cc)
    on (inr (front, e)) = inr (b ∷ front, ap (λ bs. b ∷ bs) e)

pub whole_ended : (front : List ℕ) → is_whole (front ++ 10 ∷ []) ≡ true
whole_ended [] = refl
whole_ended (b ∷ []) = refl
whole_ended (b ∷ c ∷ front) = whole_ended (c ∷ front)

-- whole bytes and a line with its line feed are whole
pub whole_push : (bytes line : List ℕ) → is_whole (bytes ++ (line ++ 10 ∷ [])) ≡ true
whole_push bytes line = rw (← (append_assoc bytes line (10 ∷ []))) (whole_ended (bytes ++ line))

-- bytes behind whole bytes begin a line
pub lines_whole : (a b : List ℕ) → is_whole a ≡ true → lines_of (a ++ b) ≡ lines_of a ++ lines_of b
lines_whole a b w = on (whole_ends a w)
  where
    on : (a ≡ []) ⊎ ((front : List ℕ) × (a ≡ front ++ 10 ∷ [])) → lines_of (a ++ b) ≡ lines_of a ++ lines_of b
    on (inl e) = rw e refl
    on (inr (front, e)) = rw (e, append_assoc front (10 ∷ []) b) (lines_ended front b)

-- bytes without a line feed are one line
pub open_line : (bytes : List ℕ) → has_no_feed bytes ≡ true → 0 < length bytes → lines_of bytes ≡ bytes ∷ []
open_line [] n some = absurd (omega arith)
open_line (b ∷ []) n some = rw (not-true (b == 10) (and_parts (not (b == 10)) true n).0) refl
open_line (b ∷ c ∷ bytes) n some =
    let p = and_parts (not (b == 10)) (has_no_feed (c ∷ bytes)) n in
    rw (not-true (b == 10) p.0, open_line (c ∷ bytes) p.1 (omega arith)) refl

-- a byte that is no line feed stands at the front of the first line
onto : (b : ℕ) (bytes : List ℕ) → not (b == 10) ≡ true → lines_of (b ∷ bytes) ≡ onto_first b (lines_of bytes)
onto b bytes n = rw (not-true (b == 10) n) refl

-- bytes without a line feed begin the first line of all that has them in front
pub begun_line : (bytes more : List ℕ) → has_no_feed bytes ≡ true → 0 < length bytes →
    (line : List ℕ) × (lines : List (List ℕ)) × (lines_of (bytes ++ more) ≡ (bytes ++ line) ∷ lines)
begun_line [] more n some = absurd (omega arith)
begun_line (b ∷ []) more n some = on (lines_of more) refl
  where
    on : (ls : List (List ℕ)) → lines_of more ≡ ls → (line : List ℕ) × (lines : List (List ℕ)) × (lines_of (b ∷ more) ≡ (b ∷ line) ∷ lines)
    on [] e = ([], [], onto b more (and_parts (not (b == 10)) true n).0 ∙ ap (onto_first b) e)
    on (line ∷ lines) e = (line, lines, onto b more (and_parts (not (b == 10)) true n).0 ∙ ap (onto_first b) e)
begun_line (b ∷ c ∷ bytes) more n some =
    let p = and_parts (not (b == 10)) (has_no_feed (c ∷ bytes)) n in
    let (line, lines, e) = begun_line (c ∷ bytes) more p.1 (omega arith) in
    (line, lines, onto b (c ∷ bytes ++ more) p.0 ∙ ap (onto_first b) e)

-- a line up to its line feed
pub lines_one : (line : List ℕ) → has_no_feed line ≡ true → lines_of (line ++ 10 ∷ []) ≡ (line ++ 10 ∷ []) ∷ []
lines_one [] n = refl
lines_one (b ∷ line) n =
    let p = and_parts (not (b == 10)) (has_no_feed line) n in
    onto b (line ++ 10 ∷ []) p.0 ∙ ap (onto_first b) (lines_one line p.1)

-- one more line behind whole bytes, and whatever comes behind it
pub lines_behind : (bytes line more : List ℕ) → is_whole bytes ≡ true → has_no_feed line ≡ true →
    lines_of (bytes ++ ((line ++ 10 ∷ []) ++ more)) ≡ lines_of bytes ++ (line ++ 10 ∷ []) ∷ lines_of more
lines_behind bytes line more w n =
    lines_whole bytes ((line ++ 10 ∷ []) ++ more) w
    ∙ ap (λ ls. lines_of bytes ++ ls) (lines_whole (line ++ 10 ∷ []) more (whole_ended line) ∙ ap (λ ls. ls ++ lines_of more) (lines_one line n))

pub lines_push : (bytes line : List ℕ) → is_whole bytes ≡ true → has_no_feed line ≡ true →
    lines_of (bytes ++ (line ++ 10 ∷ [])) ≡ lines_of bytes ++ (line ++ 10 ∷ []) ∷ []
lines_push bytes line w n = lines_whole bytes (line ++ 10 ∷ []) w ∙ ap (λ ls. lines_of bytes ++ ls) (lines_one line n)

-- the last line, where no line feed ends it
pub lines_last : (bytes line : List ℕ) → is_whole bytes ≡ true → has_no_feed line ≡ true → 0 < length line →
    lines_of (bytes ++ line) ≡ lines_of bytes ++ line ∷ []
lines_last bytes line w n some = lines_whole bytes line w ∙ ap (λ ls. lines_of bytes ++ ls) (open_line line n some)

concat-onto_first : (b : ℕ) (lines : List (List ℕ)) → concat (onto_first b lines) ≡ b ∷ concat lines
concat-onto_first b [] = refl
concat-onto_first b (line ∷ lines) = refl

-- the lines joined are the bytes
pub concat-lines_of : (bytes : List ℕ) → concat (lines_of bytes) ≡ bytes
concat-lines_of [] = refl
concat-lines_of (b ∷ bytes) = on (eqb_tells b 10) (concat-lines_of bytes)
  where
    on : ((b == 10) ≡ true) × (b ≡ 10) ⊎ ((b == 10) ≡ false) × (b ≡ 10 → ⊥) → concat (lines_of bytes) ≡ bytes → concat (lines_of (b ∷ bytes)) ≡ b ∷ bytes
    on (inl p) e = rw (p.1, e) refl
    on (inr p) e = rw (p.0, concat-onto_first b (lines_of bytes)) (ap (λ bs. b ∷ bs) e)

pub length-concat : (lines : List (List ℕ)) → sum_by length lines ≡ length (concat lines)
length-concat [] = refl
length-concat (line ∷ lines) = sum_by-cons length line lines ∙ ap (λ n. length line + n) (length-concat lines) ∙ sym (length-append line (concat lines))

-- the lines have as many bytes as the bytes
pub sizes : (bytes : List ℕ) → sum_by length (lines_of bytes) ≡ length bytes
sizes bytes = length-concat (lines_of bytes) ∙ ap length (concat-lines_of bytes)

-- an ended line is bytes without a line feed, and one line feed
pub ended_is : (line : List ℕ) → is_ended line ≡ true → (front : List ℕ) × (has_no_feed front ≡ true) × (line ≡ front ++ 10 ∷ [])
ended_is [] e = absurd (cc)
ended_is (b ∷ []) e = elim (eqb_tells b 10) [ inl p ↦ ([], refl, ap (λ x. x ∷ []) p.1) | inr p ↦ absurd (let f : false ≡ true = sym p.0 ∙ e in cc) ]
ended_is (b ∷ c ∷ line) e =
    let p = and_parts (not (b == 10)) (is_ended (c ∷ line)) e in
    let (front, n, same) = ended_is (c ∷ line) p.1 in
    (b ∷ front, both_true p.0 n, ap (λ bs. b ∷ bs) same)

-- the first lines of more lines
pub take_lines : (lines more : List (List ℕ)) (k : ℕ) → k ≤ length lines → take k (lines ++ more) ≡ take k lines
take_lines lines more k l = take-append-le k lines more l

pub take_next : (lines : List (List ℕ)) (line : List ℕ) (more : List (List ℕ)) → take (length lines + 1) (lines ++ line ∷ more) ≡ lines ++ line ∷ []
take_next lines line more =
    ap (take (length lines + 1)) (sym (append_assoc lines (line ∷ []) more)) ∙ take_at (lines ++ line ∷ []) more (length lines + 1) (length_push lines line)

-- what an ended line is without its end
pub without_end-feed : (line : List ℕ) → without_end (line ++ 10 ∷ []) ≡ without_cr line
without_end-feed [] = refl
without_end-feed (b ∷ []) = refl
without_end-feed (b ∷ c ∷ []) = refl
without_end-feed (b ∷ c ∷ d ∷ line) = ap (λ bs. b ∷ bs) (without_end-feed (c ∷ d ∷ line))

-- a line that no line feed ends is all of it
pub without_end-open : (line : List ℕ) → has_no_feed line ≡ true → without_end line ≡ line
without_end-open [] n = refl
without_end-open (b ∷ []) n = rw (not-true (b == 10) (and_parts (not (b == 10)) true n).0) refl
without_end-open (b ∷ c ∷ []) n =
    let p = and_parts (not (b == 10)) (not (c == 10) && true) n in
    rw (not-true (c == 10) (and_parts (not (c == 10)) true p.1).0) refl
without_end-open (b ∷ c ∷ d ∷ line) n =
    ap (λ bs. b ∷ bs) (without_end-open (c ∷ d ∷ line) (and_parts (not (b == 10)) (has_no_feed (c ∷ d ∷ line)) n).1)

pub without_cr-cr : (line : List ℕ) → without_cr (line ++ 13 ∷ []) ≡ line
without_cr-cr [] = refl
without_cr-cr (b ∷ []) = refl
without_cr-cr (b ∷ c ∷ line) = ap (λ bs. b ∷ bs) (without_cr-cr (c ∷ line))

-- the same by the line's last byte
pub without_end-no_cr : (line : List ℕ) → (get_or line (length line - 1) 0 ≡ 13 → ⊥) → without_end (line ++ 10 ∷ []) ≡ line
without_end-no_cr line n = without_end-feed line ∙ on line n
  where
    last : (b c : ℕ) (rest : List ℕ) → get_or (c ∷ rest) (length (c ∷ rest) - 1) 0 ≡ 13 → get_or (b ∷ c ∷ rest) (length (b ∷ c ∷ rest) - 1) 0 ≡ 13
    last b c rest e =
        let m : length (b ∷ c ∷ rest) - 1 ≡ suc (length (c ∷ rest) - 1) = omega arith in
        rw m e

    on : (line : List ℕ) → (get_or line (length line - 1) 0 ≡ 13 → ⊥) → without_cr line ≡ line
    on [] n = refl
    on (b ∷ []) n = elim (eqb_tells b 13) [ inl p ↦ absurd (n p.1) | inr p ↦ rw p.0 refl ]
    on (b ∷ c ∷ rest) n = ap (λ bs. b ∷ bs) (on (c ∷ rest) (λ e. n (last b c rest e)))

pub without_end-last_cr : (line : List ℕ) → 0 < length line → get_or line (length line - 1) 0 ≡ 13 → without_end (line ++ 10 ∷ []) ≡ take (length line - 1) line
without_end-last_cr line some e =
    let n : length line - 1 < length line = omega arith in
    let m : length line - 1 + 1 ≡ length line = omega arith in
    let t : take (length line - 1 + 1) line ≡ take (length line - 1) line ++ get_or line (length line - 1) 0 ∷ [] = take_more line (length line - 1) 0 n in
    let whole : line ≡ take (length line - 1) line ++ 13 ∷ [] = sym (take_all (length line) line (omega arith)) ∙ ap (λ k. take k line) (sym m) ∙ t ∙ ap (λ b. take (length line - 1) line ++ b ∷ []) e in
    without_end-feed line ∙ ap without_cr whole ∙ without_cr-cr (take (length line - 1) line)

-- a line's end has at most two bytes
pub take_long : (line : List ℕ) → length line ≤ length (without_end line) + 2
take_long [] = omega arith
take_long (b ∷ []) = omega arith
take_long (b ∷ c ∷ []) = omega arith
take_long (b ∷ c ∷ d ∷ line) = let ih = take_long (c ∷ d ∷ line) in omega (arith, ih)
