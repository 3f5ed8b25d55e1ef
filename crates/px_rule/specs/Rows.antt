-- A few words and places, worked out.
use Rattle.std.specs.Prelude.{◌≡◌, refl}
use Rattle.px_text.specs.declared.op.Op.TheVariants.{Pop}
use Rattle.px_rule.specs.declared.shape.Shape.{Shape}
use Rattle.px_rule.specs.Words.{packed, node_word, step_word, key_of, start_of, path_of, long_of}

abbrev small : Shape
small = record { banks = 1; node_bits = 4; step_bits = 4 }

pub node_of_5 : node_word 5 0 ≡ 1152927002164985856
node_of_5 = refl

pub start_of_5 : start_of (key_of (node_word 5 0)) ≡ 387317420
start_of_5 = refl

pub place_of_5 : path_of small (key_of (node_word 5 0)) 0 ≡ 6
place_of_5 = refl

pub start_of_3_before_6 : start_of (key_of (node_word 3 6)) ≡ 4264413716
start_of_3_before_6 = refl

pub place_of_3_before_6 : path_of small (key_of (node_word 3 6)) 0 ≡ 12
place_of_3_before_6 = refl

pub node_turns : long_of small (key_of (node_word 3 6)) ≡ 15
node_turns = refl

pub step_turns : long_of small (key_of (step_word Pop 12 3 0)) ≡ 16
step_turns = refl

-- a bank that is being built for version 3 with one call counted in, and after it was published and the call left
pub built : packed 3 1 1 ≡ 3211265
built = refl

pub stands : packed 3 0 0 ≡ 3145728
stands = refl
