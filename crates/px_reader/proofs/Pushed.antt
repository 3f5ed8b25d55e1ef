-- What is unread behind a piece.
use Rattle.std.proofs.Common.{◌≡◌, ℕ, ◌+◌, ◌-◌, ◌<◌, ◌≤◌, true, List, [], ◌++◌, length, take, drop, ap, sym, ◌∙◌, subst, append_assoc, append-nil, length-append, arith}
use Rattle.std.proofs.lemmas.List.{length-drop, take-append-drop, take_all, take-append-le, drop-append-le}
use Rattle.px_reader.specs.declared.lines.Lines.{Lines}
use Rattle.px_reader.specs.Buffers.{Keeps, IsUnread, EndsLong, ready, kept}
use Rattle.px_reader.specs.Lines.{has_no_feed, is_ended}
use Rattle.px_reader.proofs.Buffered.{cut_within, drop_all, keeps_more, keeps_none, keeps_all, keeps_size, keeps_long, ended_behind}

-- where no whole line is left, a line that has begun is all that is unread
pub unread_begun : (lines : Lines) (unread : List ℕ) → ready lines ≡ [] → IsUnread lines unread → Keeps (kept lines) lines.lost unread
unread_begun lines unread none u =
    let same : unread ≡ u.begun = u.unread_is ∙ ap (λ bs. bs ++ u.begun) none in
    subst (Keeps (kept lines) lines.lost) (sym same) u.keeps

-- a part more of the line that has begun
pub keep_adds : (bytes : List ℕ) (at whole lost : ℕ) (new : Lines) (begun part unread : List ℕ) → unread ≡ take (whole - at) (drop at bytes) ++ begun → Keeps (drop whole bytes) lost begun →
    at ≤ whole → whole ≤ length bytes → has_no_feed part ≡ true → new.at ≡ at → new.whole ≡ whole →
    new.bytes.items ≡ bytes ++ take (1_048_579 - (length bytes - whole)) part → new.lost ≡ lost + (length part - (1_048_579 - (length bytes - whole))) → IsUnread new (unread ++ part)
keep_adds bytes at whole lost new begun part unread u k low high n a w b l =
    let size : length bytes - whole ≡ length (drop whole bytes) = sym (length-drop whole bytes) in
    let more : new.bytes.items ≡ bytes ++ take (1_048_579 - length (drop whole bytes)) part = b ∙ ap (λ m. bytes ++ take (1_048_579 - m) part) size in
    let count : new.lost ≡ lost + (length part - (1_048_579 - length (drop whole bytes))) = l ∙ ap (λ m. lost + (length part - (1_048_579 - m))) size in
    let is_kept : kept new ≡ drop whole bytes ++ take (1_048_579 - length (drop whole bytes)) part =
    ap (λ m. drop m new.bytes.items) w ∙ ap (drop whole) more ∙ drop-append-le whole bytes (take (1_048_579 - length (drop whole bytes)) part) high in
    let front : take whole new.bytes.items ≡ take whole bytes = ap (take whole) more ∙ take-append-le whole bytes (take (1_048_579 - length (drop whole bytes)) part) high in
    let same : ready new ≡ take (whole - at) (drop at bytes) =
    rw (a, w) (sym (cut_within new.bytes.items at (whole - at) whole (omega arith)) ∙ ap (λ bs. take (whole - at) (drop at bs)) front ∙ cut_within bytes at (whole - at) whole (omega arith)) in
    record {
      begun = begun ++ part;
      unread_is = ap (λ bs. bs ++ part) u ∙ append_assoc (take (whole - at) (drop at bytes)) begun part ∙ ap (λ bs. bs ++ (begun ++ part)) (sym same);
      keeps = keeps_more (drop whole bytes) (kept new) begun part lost new.lost k n is_kept count;
    }

-- the end of the line that has begun, and whole lines
pub whole_adds : (begun front kept bytes : List ℕ) (lost at whole : ℕ) → Keeps kept lost begun → lost ≡ 0 → bytes ≡ kept ++ front → at ≡ 0 → whole ≡ length bytes →
    (begun ++ front ≡ take (whole - at) (drop at bytes) ++ []) × Keeps (drop whole bytes) lost []
whole_adds begun front kept bytes lost at whole k l b z w =
    let n : whole - at ≡ length bytes = omega arith in
    let all : take (whole - at) (drop at bytes) ≡ bytes = rw (n, z) (take_all (length bytes) bytes (omega arith)) in (
      sym (append-nil (take (whole - at) (drop at bytes)) ∙ all ∙ b ∙ ap (λ bs. bs ++ front) (keeps_all kept begun lost k l)),
      keeps_none (drop whole bytes) lost (drop_all bytes whole w) l,
    )

-- the end of a line of which not all was kept
pub ends_long : (begun piece kept : List ℕ) (lost size count : ℕ) → Keeps kept lost begun → 0 < lost → size ≡ length kept + lost → is_ended (take count piece) ≡ true → length (take count piece) ≡ count →
    EndsLong begun piece (size + count)
ends_long begun piece kept lost size count k l s e n =
    let all : size ≡ length begun = s ∙ keeps_size kept begun lost k in
    let long = keeps_long kept begun lost k l in (
      begun ++ take count piece,
      drop count piece,
      ap (λ bs. begun ++ bs) (sym (take-append-drop count piece)) ∙ sym (append_assoc begun (take count piece) (drop count piece)),
      ended_behind begun (take count piece) k.no_feed e,
      (let m = length-append begun (take count piece) in omega arith),
      over 1_048_579 size (length begun) count all long,
    )
  where
    over : (n s b c : ℕ) → s ≡ b → n < b → n < s + c
    over n s b c e l = omega arith
