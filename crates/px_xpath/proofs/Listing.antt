-- The tokens of a text, one after the other.
use Rattle.std.proofs.Common.{◌≡◌, ℕ, zero, suc, ◌+◌, ◌-◌, ◌<◌, ◌≤◌, Bool, false, List, [], ◌∷◌, ◌++◌, append_assoc, append-nil, length, drop, length-drop, refl, arith}
use Rattle.px_text.specs.Names.{is_white}
use Rattle.px_text.specs.Numbers.{past, is_empty}
use Rattle.px_xpath.specs.Tokens.{Token, Sized, token_at, tokens_from, tokens, ends_operand}
use Rattle.px_xpath.specs.TokenViews.{Follows, placed, all_placed, token as view}
use Rattle.px_xpath.specs.declared.token.Placed as token
use Rattle.std.proofs.lemmas.List.{map-append}

pub follows : (place : ℕ) (behind_operand : Bool) (text start rest : List ℕ) (found : Token) (bytes : ℕ) → start ≡ past is_white text →
    is_empty start ≡ false → ◌≡◌ {A = Sized} (found, bytes) (token_at behind_operand start) → rest ≡ drop bytes start → bytes ≤ length start →
    length start ≤ length text → Follows place behind_operand text (place + (length text - length start)) found rest
follows place behind_operand text start rest found bytes s e f r b w =
    let long : length rest + bytes ≡ length start = rw r (omega (arith, length-drop bytes start)) in
    rw (← s, ← f) (e, refl, refl, r, omega arith)

-- where only white space is left there is no token
pub none_left : (fuel : ℕ) (behind_operand : Bool) (place : ℕ) (text : List ℕ) → past is_white text ≡ [] → tokens_from fuel behind_operand place text ≡ []
none_left zero behind_operand place text e = refl
none_left (suc fuel) behind_operand place text e = rw e refl

first_is : (fuel : ℕ) (behind_operand : Bool) (place : ℕ) (text : List ℕ) (at : ℕ) (found : Token) (rest : List ℕ) →
    Follows place behind_operand text at found rest →
    tokens_from (suc fuel) behind_operand place text ≡ record { at = at; token = found } ∷ tokens_from fuel (ends_operand found) (place + length text - length rest) rest
first_is fuel behind_operand place text at found rest (some, a, f, r, l) =
    let start = past is_white text in
    let next = token_at behind_operand start in
    let p : place + length text - length rest ≡ at + next.1 = omega (arith, l) in
    rw (p, some, a, f, r) refl

-- one more token, and those behind it
pub one_more : (whole : List ℕ) (index : ℕ) (behind_operand : Bool) (text : List ℕ) (next : token.Placed) (rest : List ℕ) (so_far : List token.Placed) →
    length text ≤ length whole → index < length whole → Follows (length whole - length text) behind_operand text next.at (view next.token) rest →
    all_placed so_far ++ tokens_from (length whole - index) behind_operand (length whole - length text) text ≡ tokens whole →
    all_placed (so_far ++ next ∷ []) ++ tokens_from (length whole - (index + 1)) (ends_operand (view next.token)) (length whole - length rest) rest ≡ tokens whole
one_more whole index behind_operand text next rest so_far w i f e =
    let left : length whole - index ≡ suc (length whole - (index + 1)) = omega arith in
    let place : length whole - length text + length text - length rest ≡ length whole - length rest = omega arith in
    let first = first_is (length whole - (index + 1)) behind_operand (length whole - length text) text next.at (view next.token) rest f in
    rw (map-append placed so_far (next ∷ []), append_assoc) (rw (left, first, place) at e)

pub shorter : (whole text : List ℕ) (behind_operand : Bool) (at : ℕ) (found : Token) (rest : List ℕ) → length text ≤ length whole →
    Follows (length whole - length text) behind_operand text at found rest → length rest ≤ length whole
shorter whole text behind_operand at found rest w (some, a, f, r, l) = omega (arith, l)

pub all_found : (whole : List ℕ) (index : ℕ) (behind_operand : Bool) (text : List ℕ) (so_far : List token.Placed) → past is_white text ≡ [] →
    all_placed so_far ++ tokens_from (length whole - index) behind_operand (length whole - length text) text ≡ tokens whole → all_placed so_far ≡ tokens whole
all_found whole index behind_operand text so_far white e =
    rw (none_left (length whole - index) behind_operand (length whole - length text) text white, append-nil) at e

pub no_fuel : (whole : List ℕ) (index : ℕ) (behind_operand : Bool) (text : List ℕ) (so_far : List token.Placed) → length whole ≤ index →
    all_placed so_far ++ tokens_from (length whole - index) behind_operand (length whole - length text) text ≡ tokens whole → all_placed so_far ≡ tokens whole
no_fuel whole index behind_operand text so_far i e =
    let none : length whole - index ≡ 0 = omega arith in rw (none, append-nil) at e

pub none_yet : (whole : List ℕ) (so_far : List token.Placed) → so_far ≡ [] →
    all_placed so_far ++ tokens_from (length whole - 0) false (length whole - length whole) whole ≡ tokens whole
none_yet whole so_far e =
    let all : length whole - 0 ≡ length whole = omega arith in
    let start : length whole - length whole ≡ 0 = omega arith in
    rw (e, all, start) refl
