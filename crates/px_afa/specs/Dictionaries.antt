-- Numbers of texts.
use Rattle.std.specs.Prelude.{ℕ, List, map, Option, Vec, bytes_eq}
use Rattle.std.specs.Global.{Global}
use Rattle.std.specs.BTreeMap.{BTreeMap}
use Rattle.std.specs.Map.{lookup}

-- the texts of a map with their numbers
abbrev pub texts_of : BTreeMap (Vec ℕ Global) ℕ → List (List ℕ × ℕ)
texts_of numbers = map (λ entry. (entry.0.items, entry.1)) numbers.entries

-- the number of a text, where it has one
abbrev pub found : List (List ℕ × ℕ) → List ℕ → Option ℕ
found texts text = lookup (bytes_eq text) texts
