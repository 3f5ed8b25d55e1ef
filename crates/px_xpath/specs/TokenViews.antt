-- The token that a value of the program is.
use Rattle.std.specs.Prelude.{◌≡◌, ℕ, ◌+◌, ◌-◌, Bool, false, List, [], map, length, drop, Option, Some, None}
use Rattle.std.specs.Borrow.{Bor}
use Rattle.px_text.specs.Names.{is_white}
use Rattle.px_text.specs.Numbers.{past, is_empty}
use Rattle.px_xpath.specs.declared.token.Token.{Token}
use Rattle.px_xpath.specs.declared.token.Token.TheVariants as found
use Rattle.px_xpath.specs.declared.token.Sized.{Sized}
use Rattle.px_xpath.specs.declared.token.Placed.{Placed}
use Rattle.px_xpath.specs.Tokens as tokens

abbrev pub token : Token → tokens.Token
token found.Slash = tokens.Slash
token found.Slashes = tokens.Slashes
token found.OpenSquare = tokens.OpenSquare
token found.CloseSquare = tokens.CloseSquare
token found.Open = tokens.Open
token found.Close = tokens.Close
token found.At = tokens.At
token found.Star = tokens.Star
token found.Dot = tokens.Dot
token found.Minus = tokens.Minus
token (found.Related relation) = tokens.Related relation
token (found.Quoted text) = tokens.Quoted text.now
token (found.Numeric numeral) = tokens.Numeric numeral.whole.now numeral.fraction.now
token (found.NameTest name) = tokens.NameTest name.now
token found.AndWord = tokens.AndWord
token found.OrWord = tokens.OrWord
token found.NotWord = tokens.NotWord
token found.TextWord = tokens.TextWord
token found.Strange = tokens.Strange

abbrev pub sized : Sized → tokens.Sized
sized s = (token s.token, s.bytes)

abbrev pub placed : Placed → tokens.Placed
placed p = record { at = p.at; token = token p.token }

-- the tokens of a list, with their places and without
abbrev pub all_placed : List Placed → List tokens.Placed
all_placed = map placed

abbrev pub words : List Placed → List tokens.Token
words = map (λ p. token p.token)

-- the token behind the white space at the front of a text that begins at the place, and what is left behind it
abbrev pub Follows : (place : ℕ) → (behind_operand : Bool) → List ℕ → (at : ℕ) → tokens.Token → (rest : List ℕ) → Type 0
Follows place behind_operand text at found rest =
    let start = past is_white text in
    let next = tokens.token_at behind_operand start in
    (is_empty start ≡ false) × (at ≡ place + (length text - length start)) × (found ≡ next.0) × (rest ≡ drop next.1 start)
    × (length rest + (at + next.1) ≡ place + length text)

-- such a token, or none where only white space is left
abbrev pub IsNext : (place : ℕ) → (behind_operand : Bool) → List ℕ → Option (Placed × Bor (List ℕ)) → Type 0
IsNext place behind_operand text None = past is_white text ≡ []
IsNext place behind_operand text (Some found) = Follows place behind_operand text found.0.at (token found.0.token) found.1.now
