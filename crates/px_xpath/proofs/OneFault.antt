-- A text has one fault at most, and none where it is a filter.
use Rattle.std.proofs.Common.{◌≡◌, ℕ, zero, suc, ◌+◌, ◌-◌, ◌<◌, ◌≤◌, ◌⊎◌, inl, inr, true, false, List, [], ◌∷◌, ◌++◌, length, slice_get, Some, IsTrue, refl, ap, sym, ◌∙◌, subst, arith, append_assoc, length-append}
use Rattle.std.proofs.lemmas.Bool.{cases_order}
use Rattle.std.proofs.lemmas.Option.{same_Some, slice_get_within}
use Rattle.px_xpath.specs.declared.fault.FilterFault.{FilterFault}
use Rattle.px_xpath.specs.declared.fault.FilterFault.TheVariants as fault
use Rattle.px_xpath.specs.Filters.{Way}
use Rattle.px_xpath.specs.Tokens.{Token, Placed, OpenSquare, CloseSquare, Open, Close, Numeric, TextWord, tokens}
use Rattle.px_xpath.specs.Grammar.{Writes}
use Rattle.px_xpath.specs.Faults.{Begins, open_behind, words, through, is_long, IsAt, Shows, AreFineBefore, AreFine, IsFirstFault, EndsEarly, HasFault, IsText}
use Rattle.px_xpath.proofs.Exact.{cut_at, get_is, through_is, words-append}
use Rattle.px_xpath.proofs.Values.{writes_one}

-- tokens that go on to some that begin a filter begin one
begins_front : (front back : List Token) → Begins (front ++ back) → Begins front
begins_front front back (more, filter, w) = (back ++ more, filter, (let P : List Token → Type 0 = λ ts. Writes ts filter in subst P (append_assoc front back more) w))

-- a number opens no bracket and closes none
open_numeric : (ts : List Token) (n : ℕ) (whole fraction : List ℕ) → open_behind n (ts ++ Numeric whole fraction ∷ []) ≡ open_behind n ts
open_numeric [] n whole fraction = refl
open_numeric (TextWord ∷ []) n whole fraction = refl
open_numeric (TextWord ∷ Open ∷ []) n whole fraction = refl
open_numeric (TextWord ∷ Open ∷ Close ∷ ts) n whole fraction = open_numeric ts n whole fraction
open_numeric (TextWord ∷ Open ∷ t ∷ ts) n whole fraction = open_numeric (t ∷ ts) n whole fraction
open_numeric (TextWord ∷ t ∷ ts) n whole fraction = open_numeric (t ∷ ts) n whole fraction
open_numeric (OpenSquare ∷ ts) n whole fraction = open_numeric ts (n + 1) whole fraction
open_numeric (Open ∷ ts) n whole fraction = open_numeric ts (n + 1) whole fraction
open_numeric (CloseSquare ∷ ts) n whole fraction = open_numeric ts (n - 1) whole fraction
open_numeric (Close ∷ ts) n whole fraction = open_numeric ts (n - 1) whole fraction
open_numeric (t ∷ ts) n whole fraction = open_numeric ts n whole fraction

-- only a number is long
numeric : (t : Token) → IsTrue (is_long t) → (whole fraction : List ℕ) × (t ≡ Numeric whole fraction)
numeric (Numeric whole fraction) l = (whole, fraction, refl)
numeric _ l = absurd (cc)

-- a list that is not empty, by its last element
by_last : (xs : List Placed) → 0 < length xs → (front : List Placed) × (p : Placed) × (xs ≡ front ++ p ∷ [])
by_last xs h = let cut = cut_at xs (length xs - 1) (omega arith) in at_cut cut.0 cut.1 cut.2 cut.3 cut.4
  where
    none : (ps : List Placed) → length ps ≡ 0 → ps ≡ []
    none [] e = refl
    none (p ∷ ps) e = absurd (omega arith)

    at_cut : (front : List Placed) (p : Placed) (back : List Placed) → xs ≡ front ++ (p ∷ back) → length front ≡ length xs - 1 →
        (front : List Placed) × (p : Placed) × (xs ≡ front ++ p ∷ [])
    at_cut front p back e l =
        let all : length xs ≡ length front + length (p ∷ back) = ap (λ (ps : List Placed). length ps) e ∙ length-append front (p ∷ back) in
        (front, p, e ∙ ap (λ (ps : List Placed). front ++ p ∷ ps) (none back (omega arith)))

-- Too many brackets are not open behind a token without a fault.
last_open : (front : List Placed) (q p : Placed) (back : List Placed) → AreFineBefore (front ++ (q ∷ (p ∷ back))) (length front + 1) → Begins (words front ++ q.token ∷ []) →
    64 < open_behind 0 (words front ++ q.token ∷ []) → ⊥
last_open front q p back fine b high =
    fine (length front) (fault.TooNested q.at) (omega arith)
    ((q.token, get_is front q (p ∷ back)), rw (through_is front q (p ∷ back)) b, rw (through_is front q (p ∷ back)) high)

open_before : (ps front : List Placed) (q p : Placed) (back : List Placed) → ps ≡ front ++ q ∷ [] → AreFineBefore (ps ++ (p ∷ back)) (length ps) → Begins (words ps) →
    64 < open_behind 0 (words ps) → ⊥
open_before ps front q p back same = subst P (sym same) by_front
  where
    P : List Placed → Type 0
    P qs = AreFineBefore (qs ++ (p ∷ back)) (length qs) → Begins (words qs) → 64 < open_behind 0 (words qs) → ⊥

    by_front : P (front ++ q ∷ [])
    by_front fine b high =
        let placed : AreFineBefore (front ++ (q ∷ (p ∷ back))) (length front + 1) = rw (append_assoc front (q ∷ []) (p ∷ back), length-append front (q ∷ [])) at fine in
        last_open front q p back placed (rw (words-append front (q ∷ [])) at b) (rw (words-append front (q ∷ [])) at high)

-- Where too many brackets are open behind a number, too many are open before it.
never_nested : (front back : List Placed) (p : Placed) (whole fraction : List ℕ) → p.token ≡ Numeric whole fraction → AreFineBefore (front ++ (p ∷ back)) (length front) →
    Begins (words front ++ p.token ∷ []) → 64 < open_behind 0 (words front ++ p.token ∷ []) → ⊥
never_nested [] back p whole fraction e fine b high = let none : 64 < open_behind 0 (Numeric whole fraction ∷ []) = rw e at high in omega arith
never_nested (first ∷ others) back p whole fraction e fine b high =
    let (front, q, same) = by_last (first ∷ others) (omega arith) in
    let behind : 64 < open_behind 0 (words (first ∷ others) ++ Numeric whole fraction ∷ []) = rw e at high in
    let before : 64 < open_behind 0 (words (first ∷ others)) = rw (open_numeric (words (first ∷ others)) 0 whole fraction) at behind in
    open_before (first ∷ others) front q p back same fine (begins_front (words (first ∷ others)) (p.token ∷ []) b) before

-- a token with both faults of the limits
not_both : (ts : List Placed) (k at : ℕ) (t : Token) → AreFineBefore ts k → slice_get ts k ≡ Some (record { at = at; token = t }) → Begins (through ts k) →
    64 < open_behind 0 (through ts k) → IsTrue (is_long t) → ⊥
not_both ts k at t fine get b high long =
    let (front, p, back, same, l) = cut_at ts k (slice_get_within ts k _ get) in
    at_place front p back same l
  where
    at_place : (front : List Placed) (p : Placed) (back : List Placed) → ts ≡ front ++ (p ∷ back) → length front ≡ k → ⊥
    at_place front p back same l =
        let here : slice_get (front ++ (p ∷ back)) (length front) ≡ Some (record { at = at; token = t }) =
        (let P : List Placed → Type 0 = λ ps. slice_get ps (length front) ≡ Some (record { at = at; token = t }) in
        subst P same (let Q : ℕ → Type 0 = λ n. slice_get ts n ≡ Some (record { at = at; token = t }) in subst Q (sym l) get)) in
        let placed : p ≡ record { at = at; token = t } = same_Some p (record { at = at; token = t }) (sym (get_is front p back) ∙ here) in
        let (whole, fraction, is) = numeric t long in
        let found : AreFineBefore (front ++ (p ∷ back)) (length front) = (let P : List Placed → Type 0 = λ ps. AreFineBefore ps (length front) in
        subst P same (let Q : ℕ → Type 0 = λ n. AreFineBefore ts n in subst Q (sym l) fine)) in
        let tokens_are : through ts k ≡ words front ++ p.token ∷ [] = ap (λ n. through ts n) (sym l) ∙ ap (λ ps. through ps (length front)) same ∙ through_is front p back in
        never_nested front back p whole fraction (ap (λ (q : Placed). q.token) placed ∙ is) found
        (let P : List Token → Type 0 = λ us. Begins us in subst P tokens_are b) (let P : List Token → Type 0 = λ us. 64 < open_behind 0 us in subst P tokens_are high)

-- a place is one
same_at : (ts : List Placed) (k at other : ℕ) (t u : Token) → slice_get ts k ≡ Some (record { at = at; token = t }) → slice_get ts k ≡ Some (record { at = other; token = u }) → at ≡ other
same_at ts k at other t u e f = ap (λ (p : Placed). p.at) (same_Some (record { at = at; token = t }) (record { at = other; token = u }) (sym e ∙ f))

-- the first token that has a fault has one
shows_one : (ts : List Placed) (k : ℕ) (found other : FilterFault) → AreFineBefore ts k → Shows ts k found → Shows ts k other → found ≡ other
shows_one ts k (fault.NotAFilter at) (fault.NotAFilter at') fine ((t, e), b, n) ((u, f), b', n') = ap fault.NotAFilter (same_at ts k at at' t u e f)
shows_one ts k (fault.NotAFilter at) (fault.TooNested at') fine (p, b, n) (q, b', high) = absurd (n b')
shows_one ts k (fault.NotAFilter at) (fault.NumberLong at') fine (p, b, n) (u, f, b', long) = absurd (n b')
shows_one ts k (fault.TooNested at) (fault.NotAFilter at') fine (p, b, high) (q, b', n) = absurd (n b)
shows_one ts k (fault.TooNested at) (fault.TooNested at') fine ((t, e), b, high) ((u, f), b', high') = ap fault.TooNested (same_at ts k at at' t u e f)
shows_one ts k (fault.TooNested at) (fault.NumberLong at') fine (p, b, high) (u, f, b', long) = absurd (not_both ts k at' u fine f b high long)
shows_one ts k (fault.NumberLong at) (fault.NotAFilter at') fine (t, e, b, long) (q, b', n) = absurd (n b)
shows_one ts k (fault.NumberLong at) (fault.TooNested at') fine (t, e, b, long) (q, b', high) = absurd (not_both ts k at t fine e b' high long)
shows_one ts k (fault.NumberLong at) (fault.NumberLong at') fine (t, e, b, long) (u, f, b', long') = ap fault.NumberLong (same_at ts k at at' t u e f)
shows_one ts k fault.TooLong other fine s r = absurd s
shows_one ts k found fault.TooLong fine s r = absurd r

first_one : (ts : List Placed) (found other : FilterFault) → IsFirstFault ts found → IsFirstFault ts other → found ≡ other
first_one ts found other (k, fine, s) (j, fine', r) = on (cases_order k j)
  where
    on : (k ≡ j) ⊎ ((k < j) ⊎ (j < k)) → found ≡ other
    on (inl e) = shows_one ts k found other fine s (let P : ℕ → Type 0 = λ n. Shows ts n other in subst P (sym e) r)
    on (inr (inl l)) = absurd (fine' k found l s)
    on (inr (inr l)) = absurd (fine j other l r)

shown_within : (ts : List Placed) (k : ℕ) (found : FilterFault) → Shows ts k found → k < length ts
shown_within ts k (fault.NotAFilter at) ((t, e), b, n) = slice_get_within ts k _ e
shown_within ts k (fault.TooNested at) ((t, e), b, high) = slice_get_within ts k _ e
shown_within ts k (fault.NumberLong at) (t, e, b, long) = slice_get_within ts k _ e
shown_within ts k fault.TooLong s = absurd s

-- where no token has a fault, none is the first
none_first : (ts : List Placed) (found : FilterFault) → AreFine ts → IsFirstFault ts found → ⊥
none_first ts found fine (k, before, s) = fine k found (shown_within ts k found s) s

-- a fault behind the limit of the length, and one before it
too_long : (text : List ℕ) → 4_096 < length text → length text ≤ 4_096 → ⊥
too_long text long short = omega arith

abbrev IsRest : List ℕ → ℕ → Type 0
IsRest text at = IsFirstFault (tokens text) (fault.NotAFilter at) ⊎ (EndsEarly text × (at ≡ length text))

not_a_filter_one : (text : List ℕ) (at other : ℕ) → IsRest text at → IsRest text other → fault.NotAFilter at ≡ fault.NotAFilter other
not_a_filter_one text at other (inl first) (inl second) = first_one (tokens text) (fault.NotAFilter at) (fault.NotAFilter other) first second
not_a_filter_one text at other (inl first) (inr (early, e)) = absurd (none_first (tokens text) (fault.NotAFilter at) early.0 first)
not_a_filter_one text at other (inr (early, e)) (inl second) = absurd (none_first (tokens text) (fault.NotAFilter other) early.0 second)
not_a_filter_one text at other (inr (early, e)) (inr (again, f)) = ap fault.NotAFilter (e ∙ sym f)

against : (text : List ℕ) (at : ℕ) (other : FilterFault) → IsRest text at → IsFirstFault (tokens text) other → fault.NotAFilter at ≡ other
against text at other (inl first) second = first_one (tokens text) (fault.NotAFilter at) other first second
against text at other (inr (early, e)) second = absurd (none_first (tokens text) other early.0 second)

-- a text has one fault at most
pub faults_one : (text : List ℕ) (found other : FilterFault) → HasFault text found → HasFault text other → found ≡ other
faults_one text fault.TooLong fault.TooLong long long' = refl
faults_one text fault.TooLong (fault.NotAFilter at') long (short, r) = absurd (too_long text long short)
faults_one text fault.TooLong (fault.TooNested at') long (short, r) = absurd (too_long text long short)
faults_one text fault.TooLong (fault.NumberLong at') long (short, r) = absurd (too_long text long short)
faults_one text (fault.NotAFilter at) fault.TooLong (short, s) long = absurd (too_long text long short)
faults_one text (fault.TooNested at) fault.TooLong (short, s) long = absurd (too_long text long short)
faults_one text (fault.NumberLong at) fault.TooLong (short, s) long = absurd (too_long text long short)
faults_one text (fault.NotAFilter at) (fault.NotAFilter at') (short, s) (short', r) = not_a_filter_one text at at' s r
faults_one text (fault.NotAFilter at) (fault.TooNested at') (short, s) (short', r) = against text at (fault.TooNested at') s r
faults_one text (fault.NotAFilter at) (fault.NumberLong at') (short, s) (short', r) = against text at (fault.NumberLong at') s r
faults_one text (fault.TooNested at) (fault.NotAFilter at') (short, s) (short', r) = sym (against text at' (fault.TooNested at) r s)
faults_one text (fault.TooNested at) (fault.TooNested at') (short, s) (short', r) = first_one (tokens text) (fault.TooNested at) (fault.TooNested at') s r
faults_one text (fault.TooNested at) (fault.NumberLong at') (short, s) (short', r) = first_one (tokens text) (fault.TooNested at) (fault.NumberLong at') s r
faults_one text (fault.NumberLong at) (fault.NotAFilter at') (short, s) (short', r) = sym (against text at' (fault.NumberLong at) r s)
faults_one text (fault.NumberLong at) (fault.TooNested at') (short, s) (short', r) = first_one (tokens text) (fault.NumberLong at) (fault.TooNested at') s r
faults_one text (fault.NumberLong at) (fault.NumberLong at') (short, s) (short', r) = first_one (tokens text) (fault.NumberLong at) (fault.NumberLong at') s r

-- and none where it is a filter
pub faultless : (text : List ℕ) (filter : Way) (found : FilterFault) → IsText text filter → HasFault text found → ⊥
faultless text filter fault.TooLong (short, fine, w) long = too_long text long short
faultless text filter (fault.NotAFilter at) (short, fine, w) (short', inl first) = none_first (tokens text) (fault.NotAFilter at) fine first
faultless text filter (fault.NotAFilter at) (short, fine, w) (short', inr (early, e)) = early.1 filter w
faultless text filter (fault.TooNested at) (short, fine, w) (short', first) = none_first (tokens text) (fault.TooNested at) fine first
faultless text filter (fault.NumberLong at) (short, fine, w) (short', first) = none_first (tokens text) (fault.NumberLong at) fine first

-- a text is one filter at most
pub texts_one : (text : List ℕ) (filter other : Way) → IsText text filter → IsText text other → filter ≡ other
texts_one text filter other (short, fine, w) (short', fine', v) = writes_one (words (tokens text)) filter other w v
