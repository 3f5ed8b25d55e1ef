-- Texts that stand for themselves.
use Rattle.std.specs.Prelude.{◌≡◌, ℕ, ◌<◌, Bool, true, not, ◌==◌, List, [], ◌∷◌, length, take, get_or}
use Rattle.std.specs.List.{list_all}
use Rattle.px_reader.specs.Lines.{has_no_feed}

-- no backslash is among the bytes
abbrev pub has_no_escape : List ℕ → Bool
has_no_escape = list_all (λ b. not (b == 92))

-- the bytes do not end with a carriage return
abbrev pub ends_plain : List ℕ → Bool
ends_plain [] = true
ends_plain (b ∷ []) = not (b == 13)
ends_plain (b ∷ c ∷ rest) = ends_plain (c ∷ rest)

-- Behind so many bytes, which stand for themselves, stands the first line feed.
pub record IsPlain (bytes : List ℕ) (count : ℕ) : Type 0 where
  pub within : count < length bytes
  pub feed : get_or bytes count 0 ≡ 10
  pub no_feed : has_no_feed (take count bytes) ≡ true
  pub no_escape : has_no_escape (take count bytes) ≡ true
  pub no_return : ends_plain (take count bytes) ≡ true
