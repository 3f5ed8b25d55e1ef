-- The printed form of a filter is a text of it.
use Rattle.std.proofs.Common.{◌≡◌, ℕ, zero, suc, ◌+◌, ◌<◌, ◌≤◌, Bool, true, false, List, [], ◌∷◌, length, take, drop, refl, ap, sym, subst, arith, Some, ⊎_elim, take_all}
use Rattle.std.proofs.lemmas.Bool.{cases_lt}
use Rattle.std.specs.Prelude.{slice_get, max, nat_le}
use Rattle.std.proofs.lemmas.Bool.Decides.{nat_tests}
use Rattle.std.proofs.lemmas.List.{take-append-drop}
use Rattle.px_xpath.specs.declared.fault.FilterFault.TheVariants.{NotAFilter, TooLong, TooNested, NumberLong}
use Rattle.px_xpath.specs.Filters.{Way}
use Rattle.px_xpath.specs.Tokens.{Token, Placed, Quoted, Numeric, NameTest, tokens}
use Rattle.px_xpath.specs.Grammar.{Writes}
use Rattle.px_xpath.specs.Faults.{IsText, AreFine, Begins, open_behind, is_long, words}
use Rattle.px_xpath.specs.Printed.{printed}
use Rattle.px_xpath.proofs.PrintedStands.{printed_writes}
use Rattle.px_xpath.proofs.PrintedLexed.{printed_words}
use Rattle.px_xpath.proofs.TokenShapes.{IsShaped, AreShaped, shaped_tokens}
use Rattle.px_xpath.proofs.WrittenFilters.{IsGoodToken, AreGood, written}
use Rattle.px_xpath.proofs.Nesting.{Fits, filter_deep, printed_fits}
use Rattle.px_xpath.proofs.ShortNumbers.{AreShort, short_steps}
use Rattle.px_xpath.proofs.Writable.{HasSteps, IsWritable}

-- each front of tokens that write a filter begins one
begins_front : (us : List Token) (filter : Way) → Writes us filter → (k : ℕ) → Begins (take k us)
begins_front us filter w k = (drop k us, filter, subst (λ vs. Writes vs filter) (sym (take-append-drop k us)) w)

token_there : (ts : List Placed) (k : ℕ) → k < length ts → (p : Placed) × (slice_get ts k ≡ Some p)
token_there [] k h = absurd (omega arith)
token_there (p ∷ ts) zero h = (p, refl)
token_there (p ∷ ts) (suc k) h = token_there ts k (omega arith)

there_below : (ts : List Placed) (k : ℕ) (p : Placed) → slice_get ts k ≡ Some p → k < length ts
there_below [] k p e = absurd (cc)
there_below (q ∷ ts) zero p e = omega arith
there_below (q ∷ ts) (suc k) p e = let h = there_below ts k p e in omega arith

length-words : (ts : List Placed) → length (words ts) ≡ length ts
length-words [] = refl
length-words (p ∷ ts) = ap suc (length-words ts)

not_more : (n : ℕ) → (64 < n → ⊥) → n ≤ 64
not_more n h = ⊎_elim (λ l. absurd (h l)) (λ l. l) (cases_lt 64 n)

not_true : (b : Bool) → (b ≡ true → ⊥) → b ≡ false
not_true true h = absurd (h refl)
not_true false h = refl

fits_all : (ws : List Token) → ((j : ℕ) → j < length ws → open_behind 0 (take (j + 1) ws) ≤ 64) → Fits 0 ws
fits_all ws h zero = omega arith
fits_all [] h (suc j) = omega arith
fits_all (w ∷ ws) h (suc j) = ⊎_elim (λ l. within j l) (λ l. past j l) (cases_lt j (length (w ∷ ws)))
  where
    within : (j : ℕ) → j < length (w ∷ ws) → open_behind 0 (take (suc j) (w ∷ ws)) ≤ 64
    within j l = let e : j + 1 ≡ suc j = omega arith in rw e at (h j l)

    past : (j : ℕ) → length (w ∷ ws) ≤ j → open_behind 0 (take (suc j) (w ∷ ws)) ≤ 64
    past j l =
        let e : take j ws ≡ ws = take_all j ws (omega arith) in
        let f : take (length ws) ws ≡ ws = take_all (length ws) ws (omega arith) in
        let m : length ws + 1 ≡ suc (length ws) = omega arith in
        rw e (rw (m, f) at (h (length ws) (omega arith)))

text_fits : (ts : List Placed) (filter : Way) → AreFine ts → Writes (words ts) filter → Fits 0 (words ts)
text_fits ts filter fine w = fits_all (words ts) (λ j l. within j (omega (arith, length-words ts)))
  where
    within : (j : ℕ) → j < length ts → open_behind 0 (take (j + 1) (words ts)) ≤ 64
    within j l =
        let (p, e) = token_there ts j l in
        not_more _ (λ more. fine j (TooNested p.at) l ((p.token, e), begins_front (words ts) filter w (j + 1), more))

short_from : (ts : List Placed) → ((k : ℕ) (p : Placed) → slice_get ts k ≡ Some p → is_long p.token ≡ false) → AreShort (words ts)
short_from [] h = tt
short_from (p ∷ ts) h = (h zero p refl, short_from ts (λ k q e. h (suc k) q e))

text_short : (ts : List Placed) (filter : Way) → AreFine ts → Writes (words ts) filter → AreShort (words ts)
text_short ts filter fine w =
    short_from ts (λ k p e. not_true (is_long p.token) (λ long. fine k (NumberLong p.at) (there_below ts k p e) (p.token, e, begins_front (words ts) filter w (k + 1), long)))

short_at : (ts : List Placed) (k : ℕ) (p : Placed) → AreShort (words ts) → slice_get ts k ≡ Some p → is_long p.token ≡ false
short_at [] k p h e = absurd (cc)
short_at (q ∷ ts) zero p h e = let same : q ≡ p = cc in subst (λ (r : Placed). is_long r.token ≡ false) same h.0
short_at (q ∷ ts) (suc k) p h e = short_at ts k p h.1 e

good_token : (t : Token) → IsShaped t → is_long t ≡ false → IsGoodToken t
good_token (NameTest name) s h = s
good_token (Quoted bytes) s h = s
good_token (Numeric whole fraction) s h = (s.0, s.1, (lengths (length whole) (length fraction) h).0, (lengths (length whole) (length fraction) h).1)
  where
    lengths : (a b : ℕ) → nat_le 19 (max a b) ≡ false → (a ≤ 18) × (b ≤ 18)
    lengths a b h = let l : max a b ≤ 18 = grind (arith, nat_tests) in (omega arith, omega arith)
good_token _ s h = tt

good_tokens : (us : List Token) → AreShaped us → AreShort us → AreGood us
good_tokens [] s h = tt
good_tokens (t ∷ us) s h = (good_token t s.0 h.0, good_tokens us s.1 h.1)

writable : (text : List ℕ) (filter : Way) → IsText text filter → HasSteps filter × IsWritable filter
writable text filter h =
    written (words (tokens text)) filter (good_tokens (words (tokens text)) (shaped_tokens (length text) false 0 text) (text_short (tokens text) filter h.1 h.2)) h.2

fine_from : (ts : List Placed) (filter : Way) → Writes (words ts) filter → Fits 0 (words ts) → AreShort (words ts) → AreFine ts
fine_from ts filter w f h j (NotAFilter at) l s = s.2 (begins_front (words ts) filter w (j + 1))
fine_from ts filter w f h j (TooNested at) l s = let m = f (j + 1) in omega (arith, s.2)
fine_from ts filter w f h j (NumberLong at) l s = let m = short_at ts j _ h s.1 in let k = s.3 in absurd (cc)
fine_from ts filter w f h j TooLong l s = s

-- the printed form of a text's filter is a text of that filter
pub read_back : (text : List ℕ) (filter : Way) → IsText text filter → length (printed filter) ≤ 4_096 → IsText (printed filter) filter
read_back text filter h l =
    let w = writable text filter h in
    let e = printed_words filter w.0 w.1 in
    let writes = printed_writes filter w.0 w.1 in
    let fits = printed_fits filter (filter_deep (words (tokens text)) filter h.2 (text_fits (tokens text) filter h.1 h.2)) in
    let short = short_steps filter [] w.1 tt in
    let written : Writes (words (tokens (printed filter))) filter = rw e writes in
    (l, fine_from (tokens (printed filter)) filter written (rw e fits) (rw e short), written)
