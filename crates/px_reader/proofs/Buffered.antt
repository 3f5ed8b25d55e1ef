-- Bytes that are whole lines and a line that has begun, and more bytes behind them.
use Rattle.std.proofs.Common.{◌≡◌, ℕ, zero, suc, ◌+◌, ◌-◌, ◌<◌, ◌≤◌, ◌^◌, min, Bool, true, false, not, ◌&&◌, List, [], ◌∷◌, ◌++◌, ◌==◌, length, take, drop, get_or, refl, ap, sym, ◌∙◌, subst, append_assoc, length-append, length-drop, add-one, arith, ◌⊎◌, inl, inr, IsUtf8}
use Rattle.std.specs.List.{copy_within}
use Rattle.std.specs.Cmp.Derive.{both_true}
use Rattle.std.proofs.lemmas.Bool.{and_parts, cases_lt}
use Rattle.std.proofs.lemmas.Bool.Decides.{eqb_tells}
use Rattle.std.proofs.lemmas.List.{length-take, length-take-le, take-append-le, drop-append-le, take-append-drop, drop-drop, take_all, take_more}
use Rattle.std.proofs.lemmas.List.Edits.{take-paste}
use Rattle.px_reader.specs.Buffers.{Keeps}
use Rattle.px_reader.specs.Lines.{is_whole, has_no_feed, is_ended}
use Rattle.px_reader.proofs.LineCuts.{whole_ended, ended_is}
use Rattle.std.proofs.lemmas.Str.{IsUtf8-had}
use Rattle.px_reader.proofs.Kept.{kept_more}
use Rattle.px_reader.proofs.LineTexts.{text_parts}
use Rattle.px_reader.proofs.Feeds.{feed_none, longer}
use Rattle.std.proofs.lemmas.List.Folds.{list_all-append}

pub no_feeds : (a b : List ℕ) → has_no_feed a ≡ true → has_no_feed b ≡ true → has_no_feed (a ++ b) ≡ true
no_feeds a b m n = list_all-append _ a b ∙ both_true m n

-- moved to the front
pub moved : (bytes : List ℕ) (at : ℕ) → at ≤ length bytes → take (length bytes - at) (copy_within bytes at (length bytes) 0) ≡ drop at bytes
moved bytes at l =
    let same : length bytes - at ≡ 0 + (length bytes - at) = omega arith in
    ap (λ n. take n (copy_within bytes at (length bytes) 0)) same
    ∙ take-paste bytes 0 (drop at bytes) (length bytes - at) (omega arith) (let n = length-drop at bytes in omega arith)
    ∙ take_all (length bytes - at) (drop at bytes) (let n = length-drop at bytes in omega arith)

-- bytes of the piece up to a line feed are whole, whatever stands before them
pub ended_whole : (bytes piece : List ℕ) (k : ℕ) → k < length piece → (get_or piece k 0 == 10) ≡ true → is_whole (bytes ++ take (k + 1) piece) ≡ true
ended_whole bytes piece k l e =
    let feed : get_or piece k 0 ≡ 10 = elim (eqb_tells (get_or piece k 0) 10) [ inl p ↦ p.1 | inr p ↦ absurd (let f : false ≡ true = sym p.0 ∙ e in cc) ] in
    let cut : take (k + 1) piece ≡ take k piece ++ 10 ∷ [] = take_more piece k 0 l ∙ ap (λ b. take k piece ++ b ∷ []) feed in
    let whole : bytes ++ take (k + 1) piece ≡ (bytes ++ take k piece) ++ 10 ∷ [] = ap (λ bs. bytes ++ bs) cut ∙ sym (append_assoc bytes (take k piece) (10 ∷ [])) in
    subst (λ bs. is_whole bs ≡ true) (sym whole) (whole_ended (bytes ++ take k piece))

-- behind the last line feed no line has ended
pub behind_last : (piece : List ℕ) (k : ℕ) → ((j : ℕ) → k + 1 ≤ j → j < length piece → (get_or piece j 0 == 10) ≡ true → ⊥) → has_no_feed (drop (k + 1) piece) ≡ true
behind_last piece k n = rw (add-one k) (behind piece (suc k) (λ j low high e. n j (omega arith) high e))
  where
    behind : (piece : List ℕ) (k : ℕ) → ((j : ℕ) → k ≤ j → j < length piece → (get_or piece j 0 == 10) ≡ true → ⊥) → has_no_feed (drop k piece) ≡ true
    behind piece zero n = feed_none piece (λ j low high e. n j (omega arith) high e)
    behind [] (suc k) n = refl
    behind (b ∷ piece) (suc k) n = behind piece k (λ j low high e. n (suc j) (omega arith) (omega arith) e)

pub feedless_front : (k : ℕ) (bytes : List ℕ) → has_no_feed bytes ≡ true → has_no_feed (take k bytes) ≡ true
feedless_front zero bytes n = refl
feedless_front (suc k) [] n = refl
feedless_front (suc k) (b ∷ bytes) n = let p = and_parts (not (b == 10)) (has_no_feed bytes) n in both_true p.0 (feedless_front k bytes p.1)

-- bytes that end with a line feed have one
pub whole_has_feed : (bytes : List ℕ) → is_whole bytes ≡ true → 0 < length bytes → has_no_feed bytes ≡ false
whole_has_feed [] w some = absurd (omega arith)
whole_has_feed (b ∷ []) w some = rw w refl
whole_has_feed (b ∷ c ∷ bytes) w some = rw (whole_has_feed (c ∷ bytes) w (omega arith)) (and_none (not (b == 10)))
  where
    and_none : (a : Bool) → (a && false) ≡ false
    and_none true = refl
    and_none false = refl

-- a line that had begun, and its end
pub ended_behind : (begun part : List ℕ) → has_no_feed begun ≡ true → is_ended part ≡ true → is_ended (begun ++ part) ≡ true
ended_behind [] part n e = e
ended_behind (b ∷ begun) part n e = let p = and_parts (not (b == 10)) (has_no_feed begun) n in longer b (begun ++ part) p.0 (ended_behind begun part p.1 e)

-- The bytes up to `whole` are whole lines, the rest has begun a line, and the whole lines are text where that is known.
pub record Cut (bytes : List ℕ) (at whole : ℕ) (is_text : Bool) : Type 0 where
  pub ordered : at ≤ whole
  pub within : whole ≤ length bytes
  pub ended : is_whole (take (whole - at) (drop at bytes)) ≡ true
  pub begun : has_no_feed (drop whole bytes) ≡ true
  pub text : is_text ≡ true → ∥ IsUtf8 (take (whole - at) (drop at bytes)) ∥₁

pub cut_within : (bytes : List ℕ) (at count whole : ℕ) → at + count ≤ whole → take count (drop at (take whole bytes)) ≡ take count (drop at bytes)
cut_within bytes zero count whole l = front bytes count whole (omega arith)
  where
    front : (bytes : List ℕ) (count whole : ℕ) → count ≤ whole → take count (take whole bytes) ≡ take count bytes
    front bytes zero whole l = refl
    front bytes (suc count) zero l = absurd (omega arith)
    front [] (suc count) (suc whole) l = refl
    front (b ∷ bytes) (suc count) (suc whole) l = ap (λ bs. b ∷ bs) (front bytes count whole (omega arith))
cut_within bytes (suc at) count zero l = absurd (omega arith)
cut_within [] (suc at) count (suc whole) l = refl
cut_within (b ∷ bytes) (suc at) count (suc whole) l = cut_within bytes at count whole (omega arith)

-- more bytes behind those of a line that has begun
pub cut_more : (bytes part more : List ℕ) (at whole : ℕ) (is_text : Bool) → more ≡ bytes ++ part → has_no_feed part ≡ true → Cut bytes at whole is_text → Cut more at whole is_text
cut_more bytes part more at whole is_text e n c =
    let low = c.ordered in
    let front : take whole more ≡ take whole bytes = ap (take whole) e ∙ take-append-le whole bytes part c.within in
    let same : take (whole - at) (drop at more) ≡ take (whole - at) (drop at bytes) =
    sym (cut_within more at (whole - at) whole (omega arith)) ∙ ap (λ bs. take (whole - at) (drop at bs)) front ∙ cut_within bytes at (whole - at) whole (omega arith) in
    let begun : drop whole more ≡ drop whole bytes ++ part = ap (drop whole) e ∙ drop-append-le whole bytes part c.within in
    record {
      ordered = c.ordered;
      within = let w = c.within in let n = ap length e ∙ length-append bytes part in omega arith;
      ended = ap is_whole same ∙ c.ended;
      begun = ap has_no_feed begun ∙ no_feeds (drop whole bytes) part c.begun n;
      text = λ t. subst (λ bs. ∥ IsUtf8 bs ∥₁) (sym same) (c.text t);
    }

pub drop_all : (bytes : List ℕ) (n : ℕ) → n ≡ length bytes → drop n bytes ≡ []
drop_all [] n e = rw e refl
drop_all (b ∷ bytes) n e = let k : n ≡ suc (length bytes) = omega arith in rw k (drop_all bytes (length bytes) refl)

-- all bytes are whole lines
pub cut_whole : (bytes : List ℕ) (at whole : ℕ) (is_text : Bool) → at ≡ 0 → whole ≡ length bytes → is_whole bytes ≡ true → (is_text ≡ true → IsUtf8 bytes) → Cut bytes at whole is_text
cut_whole bytes at whole is_text z n w text =
    let k : whole - at ≡ length bytes = omega arith in
    let all : take (whole - at) (drop at bytes) ≡ bytes = rw (k, z) (take_all (length bytes) bytes (omega arith)) in
    record {
      ordered = omega arith;
      within = omega arith;
      ended = ap is_whole all ∙ w;
      begun = ap has_no_feed (drop_all bytes whole n);
      text = λ t. ∣ subst IsUtf8 (sym all) (text t) ∣₁;
    }

-- What a line that is taken leaves.
pub record Left (bytes : List ℕ) (at end whole : ℕ) (is_text : Bool) : Type 0 where
  pub unread : drop at bytes ≡ take (end - at) (drop at (take whole bytes)) ++ drop end bytes
  pub ready : take (whole - at) (drop at bytes) ≡ take (end - at) (drop at (take whole bytes)) ++ take (whole - end) (drop end bytes)
  pub line_text : is_text ≡ true → IsUtf8 (take (end - at) (drop at (take whole bytes)))
  pub cut : Cut bytes end whole is_text

pub taken_line : (bytes : List ℕ) (at end whole : ℕ) (is_text : Bool) → Cut bytes at whole is_text → at < end → end ≤ whole → is_ended (take (end - at) (drop at (take whole bytes))) ≡ true → Left bytes at end whole is_text
taken_line bytes at end whole is_text c low high e =
    let line = take (end - at) (drop at (take whole bytes)) in
    let same : line ≡ take (end - at) (drop at bytes) = cut_within bytes at (end - at) whole (omega arith) in
    let n : at + (end - at) ≡ end = omega arith in
    let behind : drop (end - at) (drop at bytes) ≡ drop end bytes = drop-drop (end - at) at bytes ∙ ap (λ k. drop k bytes) n in
    let unread : drop at bytes ≡ line ++ drop end bytes = sym (take-append-drop (end - at) (drop at bytes)) ∙ ap (λ bs. bs ++ drop (end - at) (drop at bytes)) (sym same) ∙ ap (λ bs. line ++ bs) behind in
    let (front, f, is) = ended_is line e in
    let long : length line ≡ end - at = ap length same ∙ length-take-le (end - at) (drop at bytes) (let m = length-drop at bytes in let w = c.within in omega arith) in
    let rest = take (whole - end) (drop end bytes) in
    let ready : take (whole - at) (drop at bytes) ≡ line ++ rest = ap (take (whole - at)) unread ∙ parts line (drop end bytes) (whole - at) (whole - end) (omega arith) in
    let shown : take (whole - at) (drop at bytes) ≡ (front ++ 10 ∷ []) ++ rest = ready ∙ ap (λ bs. bs ++ rest) is in
    let texts = λ (t : is_text ≡ true). text_parts front rest (subst IsUtf8 shown (IsUtf8-had (take (whole - at) (drop at bytes)) (c.text t))) in
    record {
      unread = unread;
      ready = ready;
      line_text = λ t. subst IsUtf8 (sym is) (texts t).0;
      cut = record {
        ordered = high;
        within = c.within;
        ended = whole_behind front rest (subst (λ bs. is_whole bs ≡ true) shown c.ended);
        begun = c.begun;
        text = λ t. ∣ (texts t).1 ∣₁;
      };
    }
  where
    parts : (line more : List ℕ) (n m : ℕ) → n ≡ length line + m → take n (line ++ more) ≡ line ++ take m more
    parts [] more n m e = let k : n ≡ m = omega arith in ap (λ k. take k more) k
    parts (b ∷ line) more n m e = let k : n ≡ suc (length line + m) = omega arith in rw k (ap (λ bs. b ∷ bs) (parts line more (length line + m) m refl))

    whole_behind : (front rest : List ℕ) → is_whole ((front ++ 10 ∷ []) ++ rest) ≡ true → is_whole rest ≡ true
    whole_behind [] [] w = refl
    whole_behind [] (b ∷ rest) w = w
    whole_behind (a ∷ []) rest w = whole_behind [] rest w
    whole_behind (a ∷ b ∷ front) rest w = whole_behind (b ∷ front) rest w

-- what is kept of a line that has begun, and what is lost, with a part more
pub keeps_more : (kept kept' begun part : List ℕ) (lost lost' : ℕ) → Keeps kept lost begun → has_no_feed part ≡ true → kept' ≡ kept ++ take (1_048_579 - length kept) part →
    lost' ≡ lost + (length part - (1_048_579 - length kept)) → Keeps kept' lost' (begun ++ part)
keeps_more kept kept' begun part lost lost' k n e l = record {
  no_feed = no_feeds begun part k.no_feed n;
  kept_are = e ∙ kept_more kept begun part k.kept_are;
  lost_are = counted 1_048_579 (length kept) (length begun) (length part) (length (begun ++ part)) lost lost' (ap length k.kept_are ∙ length-take 1_048_579 begun) k.lost_are l (length-append begun part);
}
  where
    counted : (n k b p s l m : ℕ) → k ≡ min n b → l ≡ b - n → m ≡ l + (p - (n - k)) → s ≡ b + p → m ≡ s - n
    counted n k b p s l m e f g h = grind arith

-- nothing has begun
pub keeps_none : (kept : List ℕ) (lost : ℕ) → kept ≡ [] → lost ≡ 0 → Keeps kept lost []
keeps_none kept lost k l = record { no_feed = refl; kept_are = k; lost_are = l }

-- all of a line is kept
pub keeps_all : (kept begun : List ℕ) (lost : ℕ) → Keeps kept lost begun → lost ≡ 0 → kept ≡ begun
keeps_all kept begun lost k l = on 1_048_579 k.kept_are (sym l ∙ k.lost_are)
  where
    on : (n : ℕ) → kept ≡ take n begun → 0 ≡ length begun - n → kept ≡ begun
    on n e f = e ∙ take_all n begun (omega arith)

-- how many bytes a line has of which these are kept
pub keeps_size : (kept begun : List ℕ) (lost : ℕ) → Keeps kept lost begun → length kept + lost ≡ length begun
keeps_size kept begun lost k = counted 1_048_579 (length kept) (length begun) lost (ap length k.kept_are ∙ length-take 1_048_579 begun) k.lost_are
  where
    counted : (n k b l : ℕ) → k ≡ min n b → l ≡ b - n → k + l ≡ b
    counted n k b l e f = grind arith

-- a line of which some is lost is too long
pub keeps_long : (kept begun : List ℕ) (lost : ℕ) → Keeps kept lost begun → 0 < lost → 1_048_579 < length begun
keeps_long kept begun lost k l = on 1_048_579 k.lost_are
  where
    on : (n : ℕ) → lost ≡ length begun - n → n < length begun
    on n e = omega arith

-- the same by the piece that the line lies in
pub taken_piece : (bytes : List ℕ) (at end whole : ℕ) (is_text : Bool) → Cut bytes at whole is_text → at < end → end ≤ length (take whole bytes) → is_ended (take (end - at) (drop at (take whole bytes))) ≡ true → Left bytes at end whole is_text
taken_piece bytes at end whole is_text c low high e =
    let n = length-take-le whole bytes c.within in
    taken_line bytes at end whole is_text c low (omega arith) e

pub ready_size : (bytes : List ℕ) (at whole : ℕ) → whole ≤ length bytes → length (take (whole - at) (drop at bytes)) ≡ whole - at
ready_size bytes at whole w = length-take-le (whole - at) (drop at bytes) (let n = length-drop at bytes in omega arith)

-- a line of the piece is the front of what is ready
pub line_ready : (bytes : List ℕ) (at count whole : ℕ) → count ≤ whole - at → at ≤ whole → take (at + count - at) (drop at (take whole bytes)) ≡ take count (take (whole - at) (drop at bytes))
line_ready bytes at count whole l low =
    let n : at + count - at ≡ count = omega arith in
    ap (λ k. take k (drop at (take whole bytes))) n ∙ cut_within bytes at count whole (omega arith) ∙ sym (shorter (drop at bytes) count (whole - at) l)
  where
    shorter : (bytes : List ℕ) (count whole : ℕ) → count ≤ whole → take count (take whole bytes) ≡ take count bytes
    shorter bytes zero whole l = refl
    shorter bytes (suc count) zero l = absurd (omega arith)
    shorter [] (suc count) (suc whole) l = refl
    shorter (b ∷ bytes) (suc count) (suc whole) l = ap (λ bs. b ∷ bs) (shorter bytes count whole (omega arith))

pub min_take : (n : ℕ) (bytes : List ℕ) → take (min n (length bytes)) bytes ≡ take n bytes
min_take n bytes = on (cases_lt (length bytes) n)
  where
    on : (length bytes < n) ⊎ (n ≤ length bytes) → take (min n (length bytes)) bytes ≡ take n bytes
    on (inl l) = let m : min n (length bytes) ≡ length bytes = grind arith in ap (λ k. take k bytes) m ∙ take_all (length bytes) bytes (omega arith) ∙ sym (take_all n bytes (omega arith))
    on (inr l) = let m : min n (length bytes) ≡ n = grind arith in ap (λ k. take k bytes) m

pub none_ready : (bytes : List ℕ) (at whole : ℕ) → at ≡ 0 → whole ≡ 0 → take (whole - at) (drop at bytes) ≡ []
none_ready bytes at whole z w = rw (z, w) refl

-- all bytes of a part are kept or counted
pub kept_count : (bytes part more : List ℕ) (whole lost room end : ℕ) → whole ≤ length bytes → end ≡ min room (length part) → more ≡ bytes ++ take end part → length bytes - whole + lost + length part < 2 ^ 64 →
    length more - whole + (lost + (length part - end)) < 2 ^ 64
kept_count bytes part more whole lost room end w e m l =
    let low : end ≤ length part = grind arith in
    let n = ap length m ∙ length-append bytes (take end part) in
    let t = length-take-le end part low in
    omega arith
