-- The counts of four steps, worked out.
use Rattle.std.specs.Prelude.{◌≡◌, List, [], ◌∷◌, Some, None, refl}
use Rattle.px_text.specs.declared.op.Op.TheVariants.{Push, Pop, Mask}
use Rattle.px_text.specs.Operands.{index, set_of}
use Rattle.px_reader.specs.declared.event.Event.TheVariants.{Start, Text, End}
use Rattle.px_afa.specs.Steps.{Step}
use Rattle.px_call.specs.Counted.{found, computed, own, Mark, is_found, is_computed, is_own, times}
use Rattle.px_call.specs.Outcomes.{first_full}
use Rattle.px_call.specs.Calls.{held_in}

abbrev pub push : Step
push = record { op = Push; a = set_of (3 ∷ 5 ∷ []); b = index 4; answer = [] }

abbrev pub pop : Step
pop = record { op = Pop; a = set_of []; b = index 4; answer = [] }

abbrev pub mask : Step
mask = record { op = Mask; a = set_of []; b = set_of (3 ∷ 5 ∷ []); answer = [] }

-- the push was computed, the pop was found twice, and the mask has no place
abbrev pub marks : List Mark
marks =
    record { fate = own; step = mask }
    ∷ record { fate = found; step = pop }
    ∷ record { fate = found; step = pop }
    ∷ record { fate = computed; step = push }
    ∷ []

pub two_found : times is_found marks ≡ 2
two_found = refl

pub one_computed : times is_computed marks ≡ 1
one_computed = refl

pub one_own : times is_own marks ≡ 1
one_own = refl

-- the word that is kept is the first
pub first_of_two : first_full (first_full None 7) 8 ≡ Some 7
first_of_two = refl

-- two elements hold an empty set each
pub held_by_two : held_in (Start (97 ∷ []) ∷ Start (98 ∷ []) ∷ Text (120 ∷ []) ∷ End ∷ End ∷ []) ≡ [] ∷ [] ∷ []
held_by_two = refl
