-- What the tokens of a text are like.
use Rattle.std.proofs.Common.{◌≡◌, ℕ, zero, suc, ◌+◌, ◌-◌, Bool, true, false, ◌&&◌, ◌||◌, not, ◌==◌, List, [], ◌∷◌, ◌++◌, length, take, drop, refl, arith, if◌then◌else◌, ◌⊎◌, inl, inr, subst}
use Rattle.std.specs.List.{list_all, list_any, take_while, prefix_len}
use Rattle.std.specs.Prelude.{codes, bytes_eq}
use Rattle.std.proofs.lemmas.Bool.Decides.{nat_tests}
use Rattle.px_text.specs.Names.{is_digit, is_white, begins_part, continues_part, is_part, ends_filter_name, is_filter_name}
use Rattle.px_text.specs.Numbers.{past, is_empty, starts_with_byte}
use Rattle.px_xpath.specs.Tokens.{Token, Slash, Slashes, OpenSquare, CloseSquare, Open, Close, At, Star, Dot, Minus, Related, AndWord, OrWord, NotWord, TextWord, Quoted, Numeric, NameTest, Sized, part, name_at, number_at, quoted_at, word, word_at, one_or_two, token_at, ends_operand, tokens_from, Strange}
use Rattle.px_xpath.specs.declared.filter.Relation.TheVariants.{Equal, NotEqual, Less, AtMost, Greater, AtLeast}
use Rattle.px_xpath.specs.Faults.{words}
use Rattle.px_xpath.proofs.Writable.{IsQuotable}
use Rattle.std.proofs.lemmas.Bool.{and_parts}
use Rattle.px_xpath.proofs.Lexing.{one_more}

abbrev pub IsShaped : Token → Type 0
IsShaped (NameTest name) = is_filter_name name ≡ true
IsShaped (Quoted bytes) = IsQuotable bytes
IsShaped (Numeric whole fraction) = (list_all is_digit whole ≡ true) × (list_all is_digit fraction ≡ true)
IsShaped _ = Unit {0}

abbrev pub AreShaped : List Token → Type 0
AreShaped [] = Unit {0}
AreShaped (t ∷ ts) = IsShaped t × AreShaped ts

-- what is taken while a test passes passes it
taken_passes : (test : ℕ → Bool) (bytes : List ℕ) → list_all test (take_while test bytes) ≡ true
taken_passes test [] = refl
taken_passes test (b ∷ bytes) = by_test (test b) refl (taken_passes test bytes)
  where
    by_test : (t : Bool) → test b ≡ t → list_all test (take_while test bytes) ≡ true → list_all test (take (if t then 1 + prefix_len test bytes else 0) (b ∷ bytes)) ≡ true
    by_test true e h = rw (one_more, e) h
    by_test false e h = refl

record Shaped (sized : Sized) : Type 0 where
  shape : IsShaped sized.0

shaped_if : (t : Bool) (a b : Sized) → (t ≡ true → Shaped a) → Shaped b → Shaped (if t then a else b)
shaped_if true a b p q = p refl
shaped_if false a b p q = q

plain : (t : Token) (size : ℕ) → IsShaped t → Shaped (t, size)
plain t size h = record { shape = h }

shaped_number : (text : List ℕ) → Shaped (number_at text)
shaped_number text =
    let whole = take_while is_digit text in
    let rest = drop (length whole) text in
    let fraction = take_while is_digit (drop 1 rest) in
    let w : list_all is_digit (take_while is_digit text) ≡ true = taken_passes is_digit text in
    let f : list_all is_digit (take_while is_digit (drop 1 (drop (length (take_while is_digit text)) text))) ≡ true = taken_passes is_digit (drop 1 rest) in
    shaped_if (starts_with_byte 46 rest && not (is_empty (whole ++ fraction))) (Numeric whole fraction, length whole + 1 + length fraction) (Numeric whole [], length whole)
    (λ e. plain (Numeric whole fraction) _ (w, f)) (plain (Numeric whole []) _ (w, refl))

none_is : (quote : ℕ) (bytes : List ℕ) → list_all (λ b. not (b == quote)) bytes ≡ true → list_any (λ b. b == quote) bytes ≡ false
none_is quote [] h = refl
none_is quote (b ∷ bytes) h = by_test (b == quote) h (none_is quote bytes)
  where
    by_test : (t : Bool) → (not t && list_all (λ b. not (b == quote)) bytes) ≡ true →
        (list_all (λ b. not (b == quote)) bytes ≡ true → list_any (λ b. b == quote) bytes ≡ false) → (t || list_any (λ b. b == quote) bytes) ≡ false
    by_test true h k = absurd (cc)
    by_test false h k = k h

quotable : (quote : ℕ) (bytes : List ℕ) → list_any (λ b. b == quote) bytes ≡ false → (quote ≡ 34) ⊎ (quote ≡ 39) → IsQuotable bytes
quotable quote bytes h (inl e) = inl (subst (λ q. list_any (λ b. b == q) bytes ≡ false) e h)
quotable quote bytes h (inr e) = inr (subst (λ q. list_any (λ b. b == q) bytes ≡ false) e h)

shaped_quoted : (quote : ℕ) (rest : List ℕ) → (quote ≡ 34) ⊎ (quote ≡ 39) → Shaped (quoted_at quote rest)
shaped_quoted quote rest q =
    let bytes = take_while (λ b. not (b == quote)) rest in
    let n : list_any (λ b. b == quote) (take_while (λ b. not (b == quote)) rest) ≡ false = none_is quote bytes (taken_passes (λ b. not (b == quote)) rest) in
    shaped_if (is_empty (drop (length bytes) rest)) (Strange, 1) (Quoted bytes, length bytes + 2) (λ e. plain Strange 1 tt) (plain (Quoted bytes) _ (quotable quote bytes n q))

part_is_part : (text : List ℕ) → is_empty (part text) ≡ false → is_part (part text) ≡ true
part_is_part [] h = absurd (cc)
part_is_part (b ∷ bytes) h = by_test (begins_part b) refl h
  where
    by_test : (t : Bool) → begins_part b ≡ t → is_empty (if t then b ∷ take_while continues_part bytes else []) ≡ false →
        is_part (if t then b ∷ take_while continues_part bytes else []) ≡ true
    by_test true e h = rw e (taken_passes continues_part bytes)
    by_test false e h = absurd (cc)

not_colon : (b : ℕ) → continues_part b ≡ true → (b == 58) ≡ false
not_colon b h = grind (arith, nat_tests)

ends_alone : (bytes : List ℕ) → list_all continues_part bytes ≡ true → ends_filter_name bytes ≡ true
ends_alone [] h = refl
ends_alone (b ∷ bytes) h =
    let p = and_parts (continues_part b) (list_all continues_part bytes) h in rw (not_colon b p.0, p.0) (ends_alone bytes p.1)

ends_joined : (bytes second : List ℕ) → list_all continues_part bytes ≡ true → is_part second ≡ true → ends_filter_name (bytes ++ 58 ∷ second) ≡ true
ends_joined [] second h k = k
ends_joined (b ∷ bytes) second h k =
    let p = and_parts (continues_part b) (list_all continues_part bytes) h in rw (not_colon b p.0, p.0) (ends_joined bytes second p.1 k)

name_alone : (name : List ℕ) → is_part name ≡ true → is_filter_name name ≡ true
name_alone [] h = absurd (cc)
name_alone (b ∷ bytes) h = let p = and_parts (begins_part b) (list_all continues_part bytes) h in rw p.0 (ends_alone bytes p.1)

name_joined : (first second : List ℕ) → is_part first ≡ true → is_part second ≡ true → is_filter_name (first ++ 58 ∷ second) ≡ true
name_joined [] second h k = absurd (cc)
name_joined (b ∷ bytes) second h k = let p = and_parts (begins_part b) (list_all continues_part bytes) h in rw p.0 (ends_joined bytes second p.1 k)

is_filled : (bytes : List ℕ) → not (is_empty bytes) ≡ true → is_empty bytes ≡ false
is_filled [] h = absurd (cc)
is_filled (b ∷ bytes) h = refl

name_is_name : (text : List ℕ) → is_empty (name_at text) ≡ false → is_filter_name (name_at text) ≡ true
name_is_name text h = by_test (not (is_empty first) && starts_with_byte 58 rest && not (is_empty second)) refl h
  where
    first : List ℕ
    first = part text

    rest : List ℕ
    rest = drop (length first) text

    second : List ℕ
    second = part (drop 1 rest)

    by_test : (t : Bool) → (not (is_empty first) && starts_with_byte 58 rest && not (is_empty second)) ≡ t →
        is_empty (if t then first ++ 58 ∷ second else first) ≡ false → is_filter_name (if t then first ++ 58 ∷ second else first) ≡ true
    by_test true e h =
        let p = and_parts (not (is_empty first) && starts_with_byte 58 rest) (not (is_empty second)) e in
        let q = and_parts (not (is_empty first)) (starts_with_byte 58 rest) p.0 in
        name_joined first second (part_is_part text (is_filled first q.0)) (part_is_part (drop 1 rest) (is_filled second p.1))
    by_test false e h = name_alone first (part_is_part text h)

token_if : (t : Bool) (a b : Token) → IsShaped a → IsShaped b → IsShaped (if t then a else b)
token_if true a b p q = p
token_if false a b p q = q

shaped_word_of : (behind before : Bool) (name : List ℕ) → is_filter_name name ≡ true → IsShaped (word behind before name)
shaped_word_of true before name h =
    token_if (bytes_eq name (codes "and")) AndWord (if bytes_eq name (codes "or") then OrWord else Strange) tt (token_if (bytes_eq name (codes "or")) OrWord Strange tt tt)
shaped_word_of false true name h =
    token_if (bytes_eq name (codes "not")) NotWord (if bytes_eq name (codes "text") then TextWord else Strange) tt (token_if (bytes_eq name (codes "text")) TextWord Strange tt tt)
shaped_word_of false false name h = h

shaped_word : (behind : Bool) (text : List ℕ) → Shaped (word_at behind text)
shaped_word behind text = by_test (is_empty (name_at text)) refl
  where
    by_test : (t : Bool) → is_empty (name_at text) ≡ t →
        Shaped (if◌then◌else◌ {A = Sized} t (Strange, 1) (word behind (starts_with_byte 40 (past is_white (drop (length (name_at text)) text))) (name_at text), length (name_at text)))
    by_test true e = plain Strange 1 tt
    by_test false e = plain _ _ (shaped_word_of behind _ (name_at text) (name_is_name text e))

shaped_one_or_two : (short : Token) (b : ℕ) (long : Token) (rest : List ℕ) → IsShaped short → IsShaped long → Shaped (one_or_two short b long rest)
shaped_one_or_two short b long rest h k = shaped_if (starts_with_byte b rest) (long, 2) (short, 1) (λ e. plain long 2 k) (plain short 1 h)

which_quote : (b : ℕ) → (b == 34 || b == 39) ≡ true → (b ≡ 34) ⊎ (b ≡ 39)
which_quote b h = grind (arith, nat_tests)

shaped_token : (behind : Bool) (text : List ℕ) → Shaped (token_at behind text)
shaped_token behind [] = plain Strange 1 tt
shaped_token behind (b ∷ rest) =
    let number = number_at (b ∷ rest) in
    let e0 : Shaped (word_at behind (b ∷ rest)) = shaped_word behind (b ∷ rest) in
    let e1 = shaped_if (b == 34 || b == 39) (quoted_at b rest) _ (λ e. shaped_quoted b rest (which_quote b e)) e0 in
    let e2 = shaped_if (b == 62) (one_or_two (Related Greater) 61 (Related AtLeast) rest) _ (λ e. shaped_one_or_two (Related Greater) 61 (Related AtLeast) rest tt tt) e1 in
    let e3 = shaped_if (b == 60) (one_or_two (Related Less) 61 (Related AtMost) rest) _ (λ e. shaped_one_or_two (Related Less) 61 (Related AtMost) rest tt tt) e2 in
    let e4 = shaped_if (b == 33) (one_or_two Strange 61 (Related NotEqual) rest) _ (λ e. shaped_one_or_two Strange 61 (Related NotEqual) rest tt tt) e3 in
    let e5 = shaped_if (b == 61) (Related Equal, 1) _ (λ e. plain (Related Equal) 1 tt) e4 in
    let e6 = shaped_if (b == 45) (Minus, 1) _ (λ e. plain Minus 1 tt) e5 in
    let e7 = shaped_if (b == 46) (one_or_two Dot 46 Strange rest) _ (λ e. shaped_one_or_two Dot 46 Strange rest tt tt) e6 in
    let e8 = shaped_if (b == 42) (Star, 1) _ (λ e. plain Star 1 tt) e7 in
    let e9 = shaped_if (b == 64) (At, 1) _ (λ e. plain At 1 tt) e8 in
    let e10 = shaped_if (b == 41) (Close, 1) _ (λ e. plain Close 1 tt) e9 in
    let e11 = shaped_if (b == 40) (Open, 1) _ (λ e. plain Open 1 tt) e10 in
    let e12 = shaped_if (b == 93) (CloseSquare, 1) _ (λ e. plain CloseSquare 1 tt) e11 in
    let e13 = shaped_if (b == 91) (OpenSquare, 1) _ (λ e. plain OpenSquare 1 tt) e12 in
    let e14 = shaped_if (b == 47) (one_or_two Slash 47 Slashes rest) _ (λ e. shaped_one_or_two Slash 47 Slashes rest tt tt) e13 in
    shaped_if (not (number.1 == 0)) number _ (λ e. shaped_number (b ∷ rest)) e14

pub shaped_tokens : (fuel : ℕ) (behind : Bool) (place : ℕ) (text : List ℕ) → AreShaped (words (tokens_from fuel behind place text))
shaped_tokens zero behind place text = tt
shaped_tokens (suc fuel) behind place text =
    let start = past is_white text in
    let found = token_at behind start in
    by_end (is_empty start) (shaped_token behind start).shape (shaped_tokens fuel (ends_operand found.0) (place + (length text - length start) + found.1) (drop found.1 start))
  where
    by_end : (t : Bool) → IsShaped (token_at behind (past is_white text)).0 →
        AreShaped (words (tokens_from fuel (ends_operand (token_at behind (past is_white text)).0) (place + (length text - length (past is_white text)) + (token_at behind (past is_white text)).1) (drop (token_at behind (past is_white text)).1 (past is_white text)))) →
        AreShaped (words (if t then [] else record { at = place + (length text - length (past is_white text)); token = (token_at behind (past is_white text)).0 }
        ∷ tokens_from fuel (ends_operand (token_at behind (past is_white text)).0) (place + (length text - length (past is_white text)) + (token_at behind (past is_white text)).1) (drop (token_at behind (past is_white text)).1 (past is_white text))))
    by_end true s h = tt
    by_end false s h = (s, h)
