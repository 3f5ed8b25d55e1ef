use Rattle.std.proofs.Common.{[], option_map, ap, ◌∙◌}
use Rattle.px_text.specs.Numbers.{order, decimal_of}
use Rattle.px_text.proofs.Numbers.{reads_read, no_read}
use Rattle.px_text.proofs.decimal.Decimal.cmp_text.Goals as goal

pub returns-clause-value : goal.returns-clause-value
returns-clause-value c = c.cmp.ensures c.args.text.now (c.take.ensures [] c.start-scan.ensures)

pub returns-clause-number : goal.returns-clause-number
returns-clause-number c = λ n r.
    c.cmp.ensures c.args.text.now (c.take.ensures [] c.start-scan.ensures) ∙ ap (option_map (λ n. order n (decimal_of c.args.self.now))) (reads_read c.args.text.now n r)

pub returns-clause-no_number : goal.returns-clause-no_number
returns-clause-no_number c = λ none.
    c.cmp.ensures c.args.text.now (c.take.ensures [] c.start-scan.ensures) ∙ ap (option_map (λ n. order n (decimal_of c.args.self.now))) (no_read c.args.text.now none)
