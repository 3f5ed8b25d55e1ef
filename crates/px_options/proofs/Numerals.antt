-- A text of one to ten digits.
use Rattle.std.proofs.Common.{◌≡◌, ◌≤◌, ℕ, true, ◌&&◌, List, length}
use Rattle.std.specs.Prelude.{nat_le}
use Rattle.std.specs.List.{list_all}
use Rattle.std.proofs.lemmas.Bool.{and_parts, leb-true}
use Rattle.px_text.specs.Names.{is_digit}
use Rattle.px_options.specs.OptionWords.{is_numeral}

pub numeral_parts : (text : List ℕ) → is_numeral text ≡ true → (length text ≤ 10) × (list_all is_digit text ≡ true)
numeral_parts text e =
    let outer = and_parts (nat_le 1 (length text) && nat_le (length text) 10) (list_all is_digit text) e in
    let inner = and_parts (nat_le 1 (length text)) (nat_le (length text) 10) outer.0 in
    (leb-true (length text) 10 inner.1, outer.1)
