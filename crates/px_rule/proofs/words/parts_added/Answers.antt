use Rattle.std.proofs.Common.{◌≡◌, ◌∙◌, ℕ, ◌+◌, ◌-◌, ◌/◌, ◌%◌, ◌^◌, ◌<◌, ap, sym, subst, bit_and}
use Rattle.std.proofs.lemmas.Nat.{and_mask}
use Rattle.px_rule.proofs.Folding.{same_remainder, sum_less}
use Rattle.px_rule.proofs.words.parts_added.Goals as goal

-- the low part
low : (c : goal.After-from) → bit_and c.args.number c.from.result ≡ c.args.number % 2 ^ c.args.bits
low c = ap (bit_and c.args.number) (c.from.ensures ∙ ap (λ (x : ℕ). x - 1) c.two_to.ensures.number) ∙ and_mask c.args.number c.args.bits

pub returns-clause-less : goal.returns-clause-less
returns-clause-less c = subst (λ (x : ℕ). x + c.args.number / 2 ^ c.args.bits < c.args.number) (sym (low c)) (sum_less c.args.number c.args.bits c.requires.bits.0 c.requires.large)

pub returns-clause-remainder : goal.returns-clause-remainder
returns-clause-remainder c = ap (λ (x : ℕ). (x + c.args.number / 2 ^ c.args.bits) % (2 ^ c.args.bits - 1)) (low c) ∙ same_remainder c.args.number c.args.bits c.requires.bits.0
