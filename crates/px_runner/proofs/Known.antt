-- The labels and classes that a program gives are its own.
use Rattle.std.proofs.Common.{ℕ, List, Option, Some, None, arith}
use Rattle.std.specs.Prelude.{ℤ}
use Rattle.std.specs.declared.cmp.Ordering.{Ordering}
use Rattle.px_afa.specs.declared.state.State.{State}
use Rattle.px_afa.specs.Contents.{Kind}
use Rattle.px_afa.specs.Labels.{names_of, label_number}
use Rattle.px_afa.specs.Classes.{literals_of, constants_of, text_class, number_class, class_of_number, cut_of}
use Rattle.px_afa.proofs.Sizes.{label-few, class-few, cut-few}
use Rattle.px_runner.specs.Operands.{IsLabel, IsTextClass, IsNumberClass}

pub label-known : (states : List State) (kind : Kind) → IsLabel states (label_number (names_of states) kind)
label-known states kind = let few = label-few (names_of states) kind in omega arith

pub text_class-known : (states : List State) (text : List ℕ) → IsTextClass states (text_class states text)
text_class-known states text = let few = class-few 1 (literals_of states) text (omega arith) in omega arith

pub number_class-known : (states : List State) (text : List ℕ) → IsNumberClass states (number_class states text)
number_class-known states text = go (cut_of text)
  where
    go : (o : Option (ℤ → Ordering)) → IsNumberClass states (class_of_number (constants_of states) o)
    go None = omega arith
    go (Some cut) = let few = cut-few 0 (constants_of states) cut in omega arith
