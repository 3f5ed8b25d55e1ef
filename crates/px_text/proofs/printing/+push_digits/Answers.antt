use Rattle.std.proofs.Common.{◌+◌, ◌/◌, ◌%◌, ◌++◌, ◌∷◌, [], append_assoc, ap, sym, ◌∙◌, arith}
use Rattle.px_text.specs.Printing.{digits_text}
use Rattle.px_text.proofs.Printed.{digits_step, digits_length}
use Rattle.px_text.proofs.printing.+push_digits.Goals as goal

pub push_digits-requires : goal.push_digits-requires
push_digits-requires t c = (omega arith, omega (arith, digits_length c.args.number c.if-number-gt0.true))

pub push_within-requires : goal.push_within-requires
push_within-requires t c = record { room = omega (arith, digits_length c.args.number c.if-number-gt0.true) }

pub returns-then-number-gt0-clause-items : goal.returns-then-number-gt0-clause-items
returns-then-number-gt0-clause-items t c =
    c.push_within.ensures.items ∙ ap (λ text. text ++ (48 + c.args.number % 10) ∷ []) c.push_digits.ensures.items
    ∙ append_assoc c.args.out.now.items (digits_text (c.args.number / 10)) ((48 + c.args.number % 10) ∷ [])
    ∙ ap (λ text. c.args.out.now.items ++ text) (sym (digits_step c.args.number c.if-number-gt0.true))

pub returns-then-number-gt0-clause-len : goal.returns-then-number-gt0-clause-len
returns-then-number-gt0-clause-len t c = omega (arith, digits_length c.args.number c.if-number-gt0.true)
