use Rattle.std.proofs.Common.{◌-◌, ℕ, ap, ◌∙◌, bit_and}
use Rattle.std.proofs.lemmas.Nat.{and_mask}
use Rattle.px_rule.proofs.words.step_turn.Goals as goal

pub returns-clause-remainder : goal.returns-clause-remainder
returns-clause-remainder c = ap (bit_and c.args.number) c.from.ensures ∙ (ap (λ (m : ℕ). bit_and c.args.number (m - 1)) c.step_places.ensures.number ∙ and_mask c.args.number c.args.shape.now.step_bits)
