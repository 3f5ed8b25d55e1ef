use Rattle.std.proofs.Common.{◌≡◌, ◌∙◌, true, false, nat_lt}
use Rattle.std.proofs.lemmas.Bool.Decides.{nat_tests}
use Rattle.std.proofs.Common.{arith}
use Rattle.px_text.proofs.Scanning.{ends_as_nothing, ends_in_digits, if_any_digit}
use Rattle.px_text.proofs.scan.NumberScan.is_number.Goals as goal

pub returns-in-Before : goal.returns-in-Before
returns-in-Before c = λ text h. ends_as_nothing c.args.self.now text h c.in-Before.is

pub returns-then-self-gt0 : goal.returns-then-self-gt0
returns-then-self-gt0 c = λ text h.
    let some : nat_lt 0 c.args.self.now.whole.count ≡ true = grind (arith, nat_tests) in
    let known = ends_in_digits c.args.self.now text h c.in-InWhole.is ∙ if_any_digit c.args.self.now.is_negative h.whole h.fraction c.args.self.now.whole.count c.args.self.now.fraction.count h.whole_is.count_is h.fraction_is.count_is in
    rw some (rw some at known)

pub returns-else-self-gt0 : goal.returns-else-self-gt0
returns-else-self-gt0 c = λ text h.
    let none : nat_lt 0 c.args.self.now.whole.count ≡ false = grind (arith, nat_tests) in
    let known = ends_in_digits c.args.self.now text h c.in-InWhole.is ∙ if_any_digit c.args.self.now.is_negative h.whole h.fraction c.args.self.now.whole.count c.args.self.now.fraction.count h.whole_is.count_is h.fraction_is.count_is in
    rw none at known
