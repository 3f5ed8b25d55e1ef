-- How a text is read as tokens, a token at a time.
use Rattle.std.proofs.Common.{◌≡◌, ℕ, zero, suc, ◌+◌, ◌-◌, ◌<◌, ◌≤◌, Bool, true, false, ◌&&◌, ◌||◌, not, ◌==◌, List, [], ◌∷◌, ◌++◌, length, drop, refl, ap, sym, ◌∙◌, arith, if◌then◌else◌, ◌⊎◌, inl, inr, append_assoc, length-append}
use Rattle.std.specs.List.{list_all, list_any, take_while}
use Rattle.std.proofs.lemmas.Bool.Decides.{nat_tests}
use Rattle.px_text.specs.Names.{is_digit, is_white, begins_part, continues_part, is_part, ends_filter_name, is_filter_name}
use Rattle.px_text.specs.Numbers.{past, is_empty, starts_with_byte}
use Rattle.px_xpath.specs.Tokens.{Token, Quoted, Numeric, NameTest, part, name_at, number_at, quoted_at, word_at, token_at, ends_operand, tokens_from}
use Rattle.px_xpath.specs.Faults.{words}
use Rattle.px_xpath.proofs.PrintedNumbers.{printed_fraction}
use Rattle.std.proofs.lemmas.Bool.{and_parts}

-- the text is read as these tokens, from any place on
abbrev pub Lexes : Bool → List ℕ → List Token → Type 0
Lexes behind text ts = (fuel place : ℕ) → length text ≤ fuel → words (tokens_from fuel behind place text) ≡ ts

pub lexes_end : (behind : Bool) → Lexes behind [] []
lexes_end behind zero place h = refl
lexes_end behind (suc fuel) place h = refl

-- a first token, and those behind it
pub take_token : (behind : Bool) (text rest : List ℕ) (t : Token) (size : ℕ) (ts : List Token) → past is_white text ≡ text → is_empty text ≡ false →
    token_at behind text ≡ (t, size) → drop size text ≡ rest → length rest < length text → Lexes (ends_operand t) rest ts → Lexes behind text (t ∷ ts)
take_token behind text rest t size ts w e k d l h zero place f = absurd (omega arith)
take_token behind text rest t size ts w e k d l h (suc fuel) place f =
    rw (w, e, k, d) (ap (λ us. t ∷ us) (h fuel _ (omega arith)))

past_shorter : (test : ℕ → Bool) (text : List ℕ) → length (past test text) ≤ length text
past_shorter test [] = omega arith
past_shorter test (b ∷ text) = by_test (test b) (past_shorter test text)
  where
    by_test : (t : Bool) → length (past test text) ≤ length text → length (if t then past test text else b ∷ text) ≤ length (b ∷ text)
    by_test true h = omega arith
    by_test false h = omega arith

-- a space before a token is passed over
pub skip_space : (behind : Bool) (text : List ℕ) (ts : List Token) → Lexes behind text ts → Lexes behind (32 ∷ text) ts
skip_space behind text ts h zero place f = absurd (omega arith)
skip_space behind text ts h (suc fuel) place f =
    let s = past_shorter is_white text in
    let e : place + (suc (length text) - length (past is_white text)) ≡ (place + 1) + (length text - length (past is_white text)) = omega arith in
    rw e (h (suc fuel) (place + 1) (omega arith))

abbrev pub begins : (ℕ → Bool) → List ℕ → Bool
begins test [] = false
begins test (b ∷ bytes) = test b

pub one_more : (n : ℕ) → 1 + n ≡ suc n
one_more n = omega arith

-- a front that passes the test, and a rest that does not begin so
pub front_taken : (test : ℕ → Bool) (bytes rest : List ℕ) → list_all test bytes ≡ true → begins test rest ≡ false → take_while test (bytes ++ rest) ≡ bytes
front_taken test [] [] h k = refl
front_taken test [] (b ∷ rest) h k = rw k refl
front_taken test (b ∷ bytes) rest h k =
    let p = and_parts (test b) (list_all test bytes) h in
    rw (p.0, one_more) (ap (λ bs. b ∷ bs) (front_taken test bytes rest p.1 k))

pub front_dropped : (bytes rest : List ℕ) → drop (length bytes) (bytes ++ rest) ≡ rest
front_dropped [] rest = refl
front_dropped (b ∷ bytes) rest = front_dropped bytes rest

-- what may follow a name or a number: nothing that would belong to it, and no bracket that would make the name a function
pub record Ends (rest : List ℕ) : Type 0 where
  pub part_ends : begins continues_part rest ≡ false
  pub joins_no_part : starts_with_byte 58 rest ≡ false
  pub calls_nothing : starts_with_byte 40 (past is_white rest) ≡ false

part_is : (name rest : List ℕ) → is_part name ≡ true → begins continues_part rest ≡ false → part (name ++ rest) ≡ name
part_is [] rest h k = absurd (cc)
part_is (b ∷ bytes) rest h k =
    let p = and_parts (begins_part b) (list_all continues_part bytes) h in
    rw p.0 (ap (λ bs. b ∷ bs) (front_taken continues_part bytes rest p.1 k))

-- a name is a part, or two parts joined
abbrev Joined : List ℕ → Type 0
Joined name = (is_part name ≡ true) ⊎ ((first second : List ℕ) × (name ≡ first ++ 58 ∷ second) × (is_part first ≡ true) × (is_part second ≡ true))

-- what is left of a name behind its first byte: all of one part, or the end of a first one and a second
abbrev Left : List ℕ → Type 0
Left bytes = (list_all continues_part bytes ≡ true)
    ⊎ ((first second : List ℕ) × (bytes ≡ first ++ 58 ∷ second) × (list_all continues_part first ≡ true) × (is_part second ≡ true))

left_of : (bytes : List ℕ) → ends_filter_name bytes ≡ true → Left bytes
left_of [] h = inl refl
left_of (c ∷ bytes) h = by_colon (c == 58) refl (left_of bytes) h
  where
    behind_it : Left bytes → continues_part c ≡ true → Left (c ∷ bytes)
    behind_it (inl e) k = inl (rw (k, e) refl)
    behind_it (inr (first, second, e, a, p)) k = inr (c ∷ first, second, ap (λ bs. c ∷ bs) e, rw (k, a) refl, p)

    by_colon : (t : Bool) → (c == 58) ≡ t → (ends_filter_name bytes ≡ true → Left bytes) →
        (if t then is_part bytes else continues_part c && ends_filter_name bytes) ≡ true → Left (c ∷ bytes)
    by_colon true e more h = let colon : c ≡ 58 = grind (arith, nat_tests) in inr ([], bytes, ap (λ x. x ∷ bytes) colon, refl, h)
    by_colon false e more h = let p = and_parts (continues_part c) (ends_filter_name bytes) h in behind_it (more p.1) p.0

joined_name : (name : List ℕ) → is_filter_name name ≡ true → Joined name
joined_name [] h = absurd (cc)
joined_name (b ∷ bytes) h =
    let p = and_parts (begins_part b) (ends_filter_name bytes) h in by_left (left_of bytes p.1) p.0
  where
    by_left : Left bytes → begins_part b ≡ true → Joined (b ∷ bytes)
    by_left (inl e) k = inl (rw (k, e) refl)
    by_left (inr (first, second, e, a, p)) k = inr (b ∷ first, second, ap (λ bs. b ∷ bs) e, rw (k, a) refl, p)

part_not_empty : (name : List ℕ) → is_part name ≡ true → is_empty name ≡ false
part_not_empty [] h = absurd (cc)
part_not_empty (b ∷ bytes) h = refl

-- the name at the front of a text that begins with a name, and goes on with what is none of it
name_is : (name rest : List ℕ) → is_filter_name name ≡ true → Ends rest → name_at (name ++ rest) ≡ name
name_is name rest h e = by_parts (joined_name name h)
  where
    by_parts : Joined name → name_at (name ++ rest) ≡ name
    by_parts (inl p) = rw (part_is name rest p e.part_ends, front_dropped name rest, part_not_empty name p, e.joins_no_part) refl
    by_parts (inr (first, second, s, p, q)) =
        rw (s, append_assoc, part_is first (58 ∷ (second ++ rest)) p refl, front_dropped first (58 ∷ (second ++ rest)), part_not_empty first p, part_is second rest q e.part_ends, part_not_empty second q) refl

name_begins : (name : List ℕ) → is_filter_name name ≡ true → (b : ℕ) × (bytes : List ℕ) × (name ≡ b ∷ bytes) × (begins_part b ≡ true)
name_begins [] h = absurd (cc)
name_begins (b ∷ bytes) h = (b, bytes, refl, (and_parts (begins_part b) (ends_filter_name bytes) h).0)

-- a text that begins as a name does begins with a word
word_first : (behind : Bool) (b : ℕ) (rest : List ℕ) → begins_part b ≡ true → token_at behind (b ∷ rest) ≡ word_at behind (b ∷ rest)
word_first behind b rest h =
    let digit : is_digit b ≡ false = grind (arith, nat_tests) in
    let e46 : (b == 46) ≡ false = grind (arith, nat_tests) in
    let e47 : (b == 47) ≡ false = grind (arith, nat_tests) in
    let e91 : (b == 91) ≡ false = grind (arith, nat_tests) in
    let e93 : (b == 93) ≡ false = grind (arith, nat_tests) in
    let e40 : (b == 40) ≡ false = grind (arith, nat_tests) in
    let e41 : (b == 41) ≡ false = grind (arith, nat_tests) in
    let e64 : (b == 64) ≡ false = grind (arith, nat_tests) in
    let e42 : (b == 42) ≡ false = grind (arith, nat_tests) in
    let e45 : (b == 45) ≡ false = grind (arith, nat_tests) in
    let e61 : (b == 61) ≡ false = grind (arith, nat_tests) in
    let e33 : (b == 33) ≡ false = grind (arith, nat_tests) in
    let e60 : (b == 60) ≡ false = grind (arith, nat_tests) in
    let e62 : (b == 62) ≡ false = grind (arith, nat_tests) in
    let e34 : (b == 34) ≡ false = grind (arith, nat_tests) in
    let e39 : (b == 39) ≡ false = grind (arith, nat_tests) in
    rw (digit, e46, e47, e91, e93, e40, e41, e64, e42, e45, e61, e33, e60, e62, e34, e39) refl

shorter : (b : ℕ) (bytes rest : List ℕ) → length rest < length (b ∷ bytes ++ rest)
shorter b bytes rest = omega (arith, length-append bytes rest)

not_white : (b : ℕ) → begins_part b ≡ true → is_white b ≡ false
not_white b h = grind (arith, nat_tests)

name_token : (name rest : List ℕ) → is_filter_name name ≡ true → Ends rest → token_at false (name ++ rest) ≡ (NameTest name, length name)
name_token name rest h e =
    let (b, bytes, s, k) = name_begins name h in
    let n = name_is name rest h e in
    let same : name ++ rest ≡ b ∷ (bytes ++ rest) = ap (λ x. x ++ rest) s in
    ap (token_at false) same ∙ word_first false b (bytes ++ rest) k ∙ ap (word_at false) (sym same) ∙ rw (n, front_dropped name rest, e.calls_nothing) (rw s refl)

pub lexes_name : (name rest : List ℕ) (ts : List Token) → is_filter_name name ≡ true → Ends rest → Lexes true rest ts → Lexes false (name ++ rest) (NameTest name ∷ ts)
lexes_name name rest ts h e l =
    let (b, bytes, s, k) = name_begins name h in
    let w = not_white b k in
    take_token false (name ++ rest) rest (NameTest name) (length name) ts (rw (s, w) refl) (rw s refl) (name_token name rest h e) (front_dropped name rest) (rw s (shorter b bytes rest)) l

-- a text without a quote, in two of it
quoted_is : (quote : ℕ) (text rest : List ℕ) → list_any (λ b. b == quote) text ≡ false → quoted_at quote (text ++ quote ∷ rest) ≡ (Quoted text, length text + 2)
quoted_is quote text rest h =
    rw (front_taken (λ b. not (b == quote)) text (quote ∷ rest) (none text h) (rw (same quote) refl), front_dropped text (quote ∷ rest)) refl
  where
    none : (text : List ℕ) → list_any (λ b. b == quote) text ≡ false → list_all (λ b. not (b == quote)) text ≡ true
    none [] h = refl
    none (b ∷ bytes) h = by_test (b == quote) h (none bytes)
      where
        by_test : (t : Bool) → (t || list_any (λ b. b == quote) bytes) ≡ false → (list_any (λ b. b == quote) bytes ≡ false → list_all (λ b. not (b == quote)) bytes ≡ true) →
            (not t && list_all (λ b. not (b == quote)) bytes) ≡ true
        by_test true h k = absurd (cc)
        by_test false h k = k h

    same : (n : ℕ) → (n == n) ≡ true
    same n = grind (arith, nat_tests)

behind_literal : (quote : ℕ) (text rest : List ℕ) → drop (length text + 2) (quote ∷ (text ++ quote ∷ rest)) ≡ rest
behind_literal quote [] rest = refl
behind_literal quote (b ∷ text) rest = behind_more quote (b ∷ text)
  where
    behind_more : (c : ℕ) (bytes : List ℕ) → drop (length bytes + 2) (c ∷ (bytes ++ quote ∷ rest)) ≡ rest
    behind_more c [] = refl
    behind_more c (d ∷ bytes) = let e : length (d ∷ bytes) + 2 ≡ suc (length bytes + 2) = omega arith in rw e (behind_more d bytes)

literal_longer : (text : List ℕ) (quote : ℕ) (rest : List ℕ) → length rest < length (quote ∷ (text ++ quote ∷ rest))
literal_longer text quote rest = omega (arith, length-append text (quote ∷ rest))

pub lexes_literal : (behind : Bool) (text rest : List ℕ) (ts : List Token) → list_any (λ b. b == 34) text ≡ false → Lexes true rest ts →
    Lexes behind (34 ∷ (text ++ 34 ∷ rest)) (Quoted text ∷ ts)
lexes_literal behind text rest ts h l =
    take_token behind (34 ∷ (text ++ 34 ∷ rest)) rest (Quoted text) (length text + 2) ts refl refl (quoted_is 34 text rest h) (behind_literal 34 text rest) (literal_longer text 34 rest) l

pub lexes_single : (behind : Bool) (text rest : List ℕ) (ts : List Token) → list_any (λ b. b == 39) text ≡ false → Lexes true rest ts →
    Lexes behind (39 ∷ (text ++ 39 ∷ rest)) (Quoted text ∷ ts)
lexes_single behind text rest ts h l =
    take_token behind (39 ∷ (text ++ 39 ∷ rest)) rest (Quoted text) (length text + 2) ts refl refl (quoted_is 39 text rest h) (behind_literal 39 text rest) (literal_longer text 39 rest) l

not_empty_append : (a b : List ℕ) → is_empty a ≡ false → is_empty (a ++ b) ≡ false
not_empty_append [] b h = absurd (cc)
not_empty_append (x ∷ a) b h = refl

no_digit : (rest : List ℕ) → begins continues_part rest ≡ false → (begins is_digit rest ≡ false) × (starts_with_byte 46 rest ≡ false)
no_digit [] k = (refl, refl)
no_digit (b ∷ rest) k = (grind (arith, nat_tests), grind (arith, nat_tests))

-- digits, and the point and the digits behind it where there are some
number_is : (whole fraction rest : List ℕ) → list_all is_digit whole ≡ true → list_all is_digit fraction ≡ true → is_empty whole ≡ false → begins continues_part rest ≡ false →
    number_at (whole ++ (printed_fraction fraction ++ rest)) ≡ (Numeric whole fraction, length (whole ++ printed_fraction fraction))
number_is whole [] rest w f e k =
    let n = no_digit rest k in
    rw (front_taken is_digit whole rest w n.0, front_dropped whole rest, n.1) (ap (λ size. (Numeric whole [], size)) (sized whole))
  where
    sized : (whole : List ℕ) → length whole ≡ length (whole ++ [])
    sized whole = omega (arith, length-append whole [])
number_is whole (d ∷ fraction) rest w f e k =
    let n = no_digit rest k in
    rw (front_taken is_digit whole (46 ∷ d ∷ (fraction ++ rest)) w refl, front_dropped whole (46 ∷ d ∷ (fraction ++ rest)), front_taken is_digit (d ∷ fraction) rest f n.0, not_empty_append whole (d ∷ fraction) e)
    (ap (λ size. (Numeric whole (d ∷ fraction), size)) (sized whole))
  where
    sized : (whole : List ℕ) → length whole + 1 + length (d ∷ fraction) ≡ length (whole ++ 46 ∷ d ∷ fraction)
    sized whole = omega (arith, length-append whole (46 ∷ d ∷ fraction))

number_first : (behind : Bool) (b : ℕ) (rest : List ℕ) (t : Token) (size : ℕ) → number_at (b ∷ rest) ≡ (t, suc size) → token_at behind (b ∷ rest) ≡ (t, suc size)
number_first behind b rest t size e = let some : (suc size == 0) ≡ false = grind (arith, nat_tests) in rw (e, some) refl

pub lexes_number : (behind : Bool) (whole fraction rest : List ℕ) (ts : List Token) → list_all is_digit whole ≡ true → list_all is_digit fraction ≡ true → is_empty whole ≡ false →
    begins continues_part rest ≡ false → Lexes true rest ts → Lexes behind (whole ++ (printed_fraction fraction ++ rest)) (Numeric whole fraction ∷ ts)
lexes_number behind [] fraction rest ts w f e k l = absurd (cc)
lexes_number behind (d ∷ whole) fraction rest ts w f e k l =
    let digit = (and_parts (is_digit d) (list_all is_digit whole) w).0 in
    let white : is_white d ≡ false = grind (arith, nat_tests) in
    let text = d ∷ (whole ++ (printed_fraction fraction ++ rest)) in
    take_token behind text rest (Numeric (d ∷ whole) fraction) (length (d ∷ whole ++ printed_fraction fraction)) ts
    (rw white refl) refl (number_first behind d (whole ++ (printed_fraction fraction ++ rest)) (Numeric (d ∷ whole) fraction) (length (whole ++ printed_fraction fraction)) (number_is (d ∷ whole) fraction rest w f e k))
    (behind_number whole) (number_longer whole) l
  where
    behind_number : (whole : List ℕ) → drop (length (whole ++ printed_fraction fraction)) (whole ++ (printed_fraction fraction ++ rest)) ≡ rest
    behind_number whole = let s : whole ++ (printed_fraction fraction ++ rest) ≡ (whole ++ printed_fraction fraction) ++ rest = simp append_assoc in rw s (front_dropped (whole ++ printed_fraction fraction) rest)

    number_longer : (whole : List ℕ) → length rest < length (d ∷ (whole ++ (printed_fraction fraction ++ rest)))
    number_longer whole = omega (arith, length-append whole (printed_fraction fraction ++ rest), length-append (printed_fraction fraction) rest)
