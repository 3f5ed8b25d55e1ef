-- Parts of lines, put together.
use Rattle.std.proofs.Common.{◌≡◌, ℕ, ◌+◌, ◌-◌, ◌<◌, ◌≤◌, true, not, ◌==◌, min, List, [], ◌∷◌, ◌++◌, length, take, drop, refl, ap, sym, ◌∙◌, subst, append_assoc, append-nil, length-append, Result, Ok, Err, Option, Some, None, arith}
use Rattle.std.specs.Cmp.Derive.{both_true}
use Rattle.std.proofs.lemmas.Bool.{and_parts}
use Rattle.std.proofs.lemmas.List.{take_all, length-take, take-append-drop}
use Rattle.std.proofs.lemmas.List.Folds.{list_all-append}
use Rattle.px_reader.specs.Lines.{lines_of, is_whole, is_ended, has_no_feed}
use Rattle.px_reader.proofs.Feeds.{longer}
use Rattle.px_reader.proofs.Kept.{kept_of}
use Rattle.px_reader.proofs.LineCuts.{lines_whole, begun_line, open_line, sizes}
use Rattle.px_feed.specs.declared.fault.Failure.{Failure}
use Rattle.px_feed.specs.declared.fault.Failure.TheVariants.{Fault, Memory}
use Rattle.px_feed.specs.declared.item.Item.{Item as Given}
use Rattle.px_feed.specs.Cutting.{Cut, Cuts, Fails, EndsBy}
use Rattle.px_feed.specs.Items.{Item, AtFault, Gives, bytes_in, most_bytes}
use Rattle.px_feed.specs.Joining.{Joined, FailsOn, GivesBy}
use Rattle.px_feed.proofs.Cuttings.{lines_more, whole_more}

pub no_feeds : (a b : List ℕ) → has_no_feed a ≡ true → has_no_feed b ≡ true → has_no_feed (a ++ b) ≡ true
no_feeds a b m n = list_all-append _ a b ∙ both_true m n

-- a front of bytes without a line feed has none
pub no_feed_front : (n : ℕ) (a : List ℕ) → has_no_feed a ≡ true → has_no_feed (take n a) ≡ true
no_feed_front n a e =
    let whole : has_no_feed (take n a ++ drop n a) ≡ true = ap has_no_feed (take-append-drop n a) ∙ e in
    (and_parts (has_no_feed (take n a)) (has_no_feed (drop n a)) (sym (list_all-append (λ b. not (b == 10)) (take n a) (drop n a)) ∙ whole)).0

-- a line that has begun, and its end
pub ended_more : (begun part : List ℕ) → has_no_feed begun ≡ true → is_ended part ≡ true → is_ended (begun ++ part) ≡ true
ended_more [] part n e = e
ended_more (b ∷ begun) part n e =
    let p = and_parts (not (b == 10)) (has_no_feed begun) n in
    longer b (begun ++ part) p.0 (ended_more begun part p.1 e)

-- some bytes
pub some_more : (n : ℕ) (begun part : List ℕ) → n < length part → 0 < length (begun ++ part)
some_more n begun part l = let e = length-append begun part in omega arith

pub take_none : (n : ℕ) → take {A = ℕ} n [] ≡ []
take_none n = take_all n [] (omega arith)

-- the line fails, whatever comes behind it
pub fails_line : (ended line : List ℕ) (given : List Item) (failure : Failure) → is_whole ended ≡ true → is_ended line ≡ true → Fails (lines_of ended ++ line ∷ []) given failure →
    FailsOn (ended ++ line) given failure
fails_line ended line given Memory w e f = tt
fails_line ended line given (Fault fault) w e f = λ rest.
    subst (λ ls. Gives [] ls given (AtFault fault.line fault.kind))
    (sym (lines_whole (ended ++ line) rest (whole_more ended line e) ∙ ap (λ ls. ls ++ lines_of rest) (lines_more ended line w e))) (f (lines_of rest))

-- the line fails, however it goes on
pub fails_begun : (ended begun : List ℕ) (given : List Item) (failure : Failure) → is_whole ended ≡ true → has_no_feed begun ≡ true → 0 < length begun →
    ((more : List ℕ) → Fails (lines_of ended ++ (begun ++ more) ∷ []) given failure) → FailsOn (ended ++ begun) given failure
fails_begun ended begun given Memory w n some f = tt
fails_begun ended begun given (Fault fault) w n some f = λ rest.
    let (line, lines, e) = begun_line begun rest n some in
    let same : lines_of ((ended ++ begun) ++ rest) ≡ (lines_of ended ++ (begun ++ line) ∷ []) ++ lines =
    ap lines_of (append_assoc ended begun rest) ∙ lines_whole ended (begun ++ rest) w ∙ ap (λ ls. lines_of ended ++ ls) e ∙ sym (append_assoc (lines_of ended) ((begun ++ line) ∷ []) lines) in
    subst (λ ls. Gives [] ls given (AtFault fault.line fault.kind)) (sym same) (f line lines)

-- a line has ended, and nothing has begun
joined_line : (document : List ℕ) (number size : ℕ) (kept : List ℕ) (count : ℕ) (ended line : List ℕ) (given : List Item) → is_whole ended ≡ true → is_ended line ≡ true →
    length (ended ++ line) ≤ most_bytes → kept ≡ [] → count ≡ 0 → Cut document number size (lines_of ended ++ line ∷ []) given → Joined document number size kept count (ended ++ line) given
joined_line document number size kept count ended line given w e fits none zero cut = record {
  ended = ended ++ line;
  begun = [];
  bytes_are = sym (append-nil (ended ++ line));
  whole = whole_more ended line e;
  no_feed = refl;
  cut = subst (λ ls. Cut document number size ls given) (sym (lines_more ended line w e)) cut;
  kept_are = none ∙ sym (take_none 1_048_578);
  count_is = zero;
  fits = fits;
}

pub joins_line : (result : Result (Option Given) Failure) (document : List ℕ) (number size : ℕ) (kept : List ℕ) (count : ℕ) (ended line : List ℕ) (given : List Item) → is_whole ended ≡ true → is_ended line ≡ true →
    length (ended ++ line) ≤ most_bytes → kept ≡ [] → count ≡ 0 → Cuts (Cut document number size (lines_of ended ++ line ∷ [])) result (lines_of ended ++ line ∷ []) given →
    GivesBy result (Joined document number size kept count (ended ++ line)) (ended ++ line) given
joins_line (Ok None) document number size kept count ended line given w e fits none zero cut = joined_line document number size kept count ended line given w e fits none zero cut
joins_line (Ok (Some item)) document number size kept count ended line given w e fits none zero (brought, is, cut) =
    (brought, is, joined_line document number size kept count ended line (given ++ brought ∷ []) w e fits none zero cut)
joins_line (Err failure) document number size kept count ended line given w e fits none zero f = fails_line ended line given failure w e f

-- the bytes of a feed so far
pub size_joined : (document : List ℕ) (number size : ℕ) (kept : List ℕ) (count : ℕ) (bytes : List ℕ) (given : List Item) (j : Joined document number size kept count bytes given) →
    (size ≡ bytes_in (lines_of j.ended)) × (bytes_in (lines_of j.ended) ≡ length j.ended) × (length bytes ≡ length j.ended + length j.begun)
size_joined document number size kept count bytes given j = (j.cut.sizes, sizes j.ended, ap length j.bytes_are ∙ length-append j.ended j.begun)

-- a part more is within the feed, or it is not
pub part_fits : (document : List ℕ) (number size : ℕ) (kept : List ℕ) (count : ℕ) (bytes part : List ℕ) (given : List Item) (room : ℕ) → Joined document number size kept count bytes given →
    room + size ≡ most_bytes → size + count ≤ most_bytes → length part ≤ room - count → length (bytes ++ part) ≤ most_bytes
part_fits document number size kept count bytes part given room j r within fits =
    let (a, b, d) = size_joined document number size kept count bytes given j in
    sum most_bytes size (bytes_in (lines_of j.ended)) (length j.ended) (length j.begun) (length bytes) (length part) (length (bytes ++ part)) room count a b d (length-append bytes part) j.count_is r within fits
  where
    sum : (m e w l b n p t r c : ℕ) → e ≡ w → w ≡ l → n ≡ l + b → t ≡ n + p → c ≡ b → r + e ≡ m → e + c ≤ m → p ≤ r - c → t ≤ m
    sum m e w l b n p t r c h1 h2 h3 h4 h5 h6 h7 h8 = omega arith

pub part_long : (document : List ℕ) (number size : ℕ) (kept : List ℕ) (count : ℕ) (bytes part more : List ℕ) (given : List Item) (room : ℕ) (j : Joined document number size kept count bytes given) →
    room + size ≡ most_bytes → room - count < length part → most_bytes < bytes_in (lines_of j.ended) + length ((j.begun ++ part) ++ more)
part_long document number size kept count bytes part more given room j r long =
    let (a, b, d) = size_joined document number size kept count bytes given j in
    sum most_bytes size (bytes_in (lines_of j.ended)) (length j.begun) (length part) (length more) (length (j.begun ++ part)) (length ((j.begun ++ part) ++ more)) room count a
    (length-append j.begun part) (length-append (j.begun ++ part) more) j.count_is r long
  where
    sum : (m e w b p q s t r c : ℕ) → e ≡ w → s ≡ b + p → t ≡ s + q → c ≡ b → r + e ≡ m → r - c < p → m < w + t
    sum m e w b p q s t r c h1 h2 h3 h4 h5 h6 = omega arith

-- a part that goes on with the line
pub joins_part : (document : List ℕ) (number size : ℕ) (kept kept' : List ℕ) (count count' : ℕ) (bytes part : List ℕ) (given : List Item) → Joined document number size kept count bytes given → has_no_feed part ≡ true →
    kept' ≡ kept ++ take (1_048_578 - length kept) part → count' ≡ count + length part → length (bytes ++ part) ≤ most_bytes → Joined document number size kept' count' (bytes ++ part) given
joins_part document number size kept kept' count count' bytes part given j n k e fits = record {
  ended = j.ended;
  begun = j.begun ++ part;
  bytes_are = ap (λ bs. bs ++ part) j.bytes_are ∙ append_assoc j.ended j.begun part;
  whole = j.whole;
  no_feed = no_feeds j.begun part j.no_feed n;
  cut = j.cut;
  kept_are = k ∙ kept_of 1_048_578 kept j.begun part j.kept_are;
  count_is = e ∙ ap (λ n. n + length part) j.count_is ∙ sym (length-append j.begun part);
  fits = fits;
}

-- the bytes with a part that ends the line
pub bytes_with : (document : List ℕ) (number size : ℕ) (kept : List ℕ) (count : ℕ) (bytes part : List ℕ) (given : List Item) (j : Joined document number size kept count bytes given) →
    bytes ++ part ≡ j.ended ++ (j.begun ++ part)
bytes_with document number size kept count bytes part given j = ap (λ bs. bs ++ part) j.bytes_are ∙ append_assoc j.ended j.begun part

-- all of a line that is not too long is kept
pub kept_whole : (document : List ℕ) (number size : ℕ) (kept : List ℕ) (count : ℕ) (bytes : List ℕ) (given : List Item) (j : Joined document number size kept count bytes given) → count ≤ 1_048_578 → kept ≡ j.begun
kept_whole document number size kept count bytes given j small = j.kept_are ∙ take_all 1_048_578 j.begun (subst (λ n. n ≤ 1_048_578) j.count_is small)

-- how much is kept
pub kept_length : (n count : ℕ) (kept part : List ℕ) → length kept ≡ min count n → length (kept ++ take (n - length kept) part) ≡ min (count + length part) n
kept_length n count kept part e =
    sum n count (length kept) (length part) (length (take (n - length kept) part)) (length (kept ++ take (n - length kept) part)) e (length-take (n - length kept) part) (length-append kept (take (n - length kept) part))
  where
    sum : (n c k p t s : ℕ) → k ≡ min c n → t ≡ min (n - k) p → s ≡ k + t → s ≡ min (c + p) n
    sum n c k p t s h1 h2 h3 = grind arith

-- the last line is cut
pub ends_joined : (result : Result (Option Given) Failure) (document : List ℕ) (number size : ℕ) (kept : List ℕ) (count : ℕ) (bytes : List ℕ) (given : List Item) (j : Joined document number size kept count bytes given) →
    EndsBy result (lines_of j.ended ++ lines_of j.begun) given → EndsBy result (lines_of bytes) given
ends_joined result document number size kept count bytes given j e =
    subst (λ ls. EndsBy result ls given) (sym (ap lines_of j.bytes_are ∙ lines_whole j.ended j.begun j.whole)) e

-- the last line is too long
pub ends_long : (document : List ℕ) (number size : ℕ) (kept : List ℕ) (count : ℕ) (bytes : List ℕ) (given : List Item) (failure : Failure) (j : Joined document number size kept count bytes given) → 0 < length j.begun →
    Fails (lines_of j.ended ++ j.begun ∷ []) given failure → EndsBy (Err failure) (lines_of bytes) given
ends_long document number size kept count bytes given Memory j some f = tt
ends_long document number size kept count bytes given (Fault fault) j some f =
    let same : lines_of bytes ≡ lines_of j.ended ++ j.begun ∷ [] = ap lines_of j.bytes_are ∙ lines_whole j.ended j.begun j.whole ∙ ap (λ ls. lines_of j.ended ++ ls) (open_line j.begun j.no_feed some) in
    subst (λ ls. Gives [] ls given (AtFault fault.line fault.kind)) (sym same)
    (subst (λ ls. Gives [] ls given (AtFault fault.line fault.kind)) (append-nil (lines_of j.ended ++ j.begun ∷ [])) (f []))

-- a line that a part ends is within the feed
pub line_fits : (document : List ℕ) (number size : ℕ) (kept : List ℕ) (count : ℕ) (bytes : List ℕ) (given : List Item) (room part : ℕ) (j : Joined document number size kept count bytes given) →
    room + size ≡ most_bytes → size + count ≤ most_bytes → part ≤ room - count → bytes_in (lines_of j.ended) + (count + part) ≤ most_bytes
line_fits document number size kept count bytes given room part j r within fits = sum most_bytes size (bytes_in (lines_of j.ended)) part room count j.cut.sizes r within fits
  where
    sum : (m e w p r c : ℕ) → e ≡ w → r + e ≡ m → e + c ≤ m → p ≤ r - c → w + (c + p) ≤ m
    sum m e w p r c h1 h2 h3 h4 = omega arith

-- what stands behind the last line feed is within the feed
pub begun_fits : (document : List ℕ) (number size : ℕ) (kept : List ℕ) (count : ℕ) (bytes : List ℕ) (given : List Item) (j : Joined document number size kept count bytes given) →
    size + count ≤ most_bytes → bytes_in (lines_of j.ended) + count ≤ most_bytes
begun_fits document number size kept count bytes given j within = subst (λ n. n + count ≤ most_bytes) j.cut.sizes within
