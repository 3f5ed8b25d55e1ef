-- The tokens of a filter's text, and where each begins.
use Rattle.std.specs.Prelude.{ℕ, zero, suc, ◌+◌, ◌-◌, Bool, true, false, ◌&&◌, ◌||◌, not, ◌==◌, List, [], ◌∷◌, ◌++◌, length, drop, take_while, codes, bytes_eq, if◌then◌else◌}
use Rattle.px_text.specs.Names.{is_digit, is_white, begins_part, continues_part}
use Rattle.px_text.specs.Numbers.{past, is_empty, starts_with_byte}
use Rattle.px_xpath.specs.declared.filter.Relation.{Relation}
use Rattle.px_xpath.specs.declared.filter.Relation.TheVariants.{Equal, NotEqual, Less, AtMost, Greater, AtLeast}

pub data Token : Type 0 where
  Slash : Token
  Slashes : Token
  OpenSquare : Token
  CloseSquare : Token
  Open : Token
  Close : Token
  At : Token
  Star : Token
  Dot : Token
  Minus : Token
  Related : Relation → Token
  Quoted : (text : List ℕ) → Token
  -- the digits before the point, and those after it
  Numeric : (whole fraction : List ℕ) → Token
  NameTest : (name : List ℕ) → Token
  AndWord : Token
  OrWord : Token
  NotWord : Token
  TextWord : Token
  -- no filter has it
  Strange : Token

-- a token with the number of its bytes
abbrev pub Sized : Type 0
Sized = Token × ℕ

abbrev pub part : List ℕ → List ℕ
part [] = []
part (b ∷ bytes) = if begins_part b then b ∷ take_while continues_part bytes else []

-- the longest name at the front: a part, or two parts joined by a colon
abbrev pub name_at : List ℕ → List ℕ
name_at text =
    let first = part text in
    let rest = drop (length first) text in
    let second = part (drop 1 rest) in
    if not (is_empty first) && starts_with_byte 58 rest && not (is_empty second) then first ++ 58 ∷ second else first

-- the longest Number at the front: its digits before the point and after it, and its bytes; no bytes where there is none
abbrev pub number_at : List ℕ → Sized
number_at text =
    let whole = take_while is_digit text in
    let rest = drop (length whole) text in
    let fraction = take_while is_digit (drop 1 rest) in
    if starts_with_byte 46 rest && not (is_empty (whole ++ fraction))
    then (Numeric whole fraction, length whole + 1 + length fraction)
    else (Numeric whole [], length whole)

abbrev pub quoted_at : ℕ → List ℕ → Sized
quoted_at quote rest =
    let text = take_while (λ b. not (b == quote)) rest in
    if is_empty (drop (length text) rest) then (Strange, 1) else (Quoted text, length text + 2)

-- a token of one byte, or another of two where the byte stands behind it
abbrev pub one_or_two : Token → ℕ → Token → List ℕ → Sized
one_or_two short b long rest = if starts_with_byte b rest then (long, 2) else (short, 1)

-- What a word is: an operator behind a whole operand, a function before a bracket, and else a name test.
abbrev pub word : (behind_operand : Bool) → (before_bracket : Bool) → List ℕ → Token
word true _ name = if bytes_eq name (codes "and") then AndWord else if bytes_eq name (codes "or") then OrWord else Strange
word false true name = if bytes_eq name (codes "not") then NotWord else if bytes_eq name (codes "text") then TextWord else Strange
word false false name = NameTest name

abbrev pub word_at : Bool → List ℕ → Sized
word_at behind_operand text =
    let name = name_at text in
    let rest = drop (length name) text in
    if is_empty name then (Strange, 1) else (word behind_operand (starts_with_byte 40 (past is_white rest)) name, length name)

-- the token at the front of a text that begins with no white space
abbrev pub token_at : Bool → List ℕ → Sized
token_at behind_operand [] = (Strange, 1)
token_at behind_operand (b ∷ rest) =
    let number = number_at (b ∷ rest) in
    let word = word_at behind_operand (b ∷ rest) in
    if not (number.1 == 0) then number
    else if b == 47 then one_or_two Slash 47 Slashes rest
    else if b == 91 then (OpenSquare, 1)
    else if b == 93 then (CloseSquare, 1)
    else if b == 40 then (Open, 1)
    else if b == 41 then (Close, 1)
    else if b == 64 then (At, 1)
    else if b == 42 then (Star, 1)
    else if b == 46 then one_or_two Dot 46 Strange rest
    else if b == 45 then (Minus, 1)
    else if b == 61 then (Related Equal, 1)
    else if b == 33 then one_or_two Strange 61 (Related NotEqual) rest
    else if b == 60 then one_or_two (Related Less) 61 (Related AtMost) rest
    else if b == 62 then one_or_two (Related Greater) 61 (Related AtLeast) rest
    else if b == 34 || b == 39 then quoted_at b rest
    else word

-- whether a condition, a path or a value may end with this token
abbrev pub ends_operand : Token → Bool
ends_operand (NameTest name) = true
ends_operand Star = true
ends_operand Close = true
ends_operand CloseSquare = true
ends_operand (Quoted text) = true
ends_operand (Numeric whole fraction) = true
ends_operand _ = false

pub record Placed : Type 0 where
  pub at : ℕ
  pub token : Token

-- The tokens of a text whose first byte has this place, from the left. There are at most as many as there is fuel.
abbrev pub tokens_from : (fuel : ℕ) → (behind_operand : Bool) → (place : ℕ) → List ℕ → List Placed
tokens_from zero behind_operand place text = []
tokens_from (suc fuel) behind_operand place text =
    let start = past is_white text in
    let at = place + (length text - length start) in
    let found = token_at behind_operand start in
    let rest = record { at = at; token = found.0 } ∷ tokens_from fuel (ends_operand found.0) (at + found.1) (drop found.1 start) in
    if is_empty start then [] else rest

abbrev pub tokens : List ℕ → List Placed
tokens text = tokens_from (length text) false 0 text
