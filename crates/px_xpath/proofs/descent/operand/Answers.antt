use Rattle.std.proofs.Common.{refl, sym, ◌∙◌, rules}
use Rattle.px_xpath.specs.Tokens as tokens
use Rattle.px_xpath.specs.TokenViews.{all_placed}
use Rattle.px_xpath.specs.Machine.{BehindRelation, BehindUnary}
use Rattle.px_xpath.specs.Reads.{begins_operand}
use Rattle.px_xpath.proofs.Walks.{stuck, stuck_at, long, nothing_comes}
use Rattle.px_xpath.proofs.Stuck.{no_operand}
use Rattle.px_xpath.proofs.Phrases.{literal_stands, number_stands, minus_reads, no_literal}
use Rattle.px_xpath.proofs.descent.operand.Goals as goal

pub returns-then-not-is_equality : goal.returns-then-not-is_equality
returns-then-not-is_equality c = λ group.
    stuck_at (BehindRelation c.args.relation group) (tokens.Quoted c.in-Quoted.text.now) (all_placed c.args.tokens.now) (all_placed c.in-Some.rest.now)
    (no_literal c.args.relation group c.in-Quoted.text.now (sym c.is_equality.ensures ∙ c.if-not-is_equality.true)) (search rules)

pub returns-in_ok-of-in-Quoted : goal.returns-in_ok-of-in-Quoted
returns-in_ok-of-in-Quoted c =
    rw c.in_ok-of-in-Quoted.ensures.copies
    (literal_stands c.args.relation c.in-Quoted.text.now (all_placed c.args.tokens.now) (all_placed c.in-Some.rest.now) (sym c.is_equality.ensures ∙ c.if-not-is_equality.false) (search rules))

pub returns-in-Some-decimal : goal.returns-in-Some-decimal
returns-in-Some-decimal c =
    let n = c.in-Numeric.numeral in
    number_stands c.args.relation n.whole.now n.fraction.now c.in-Some-decimal.number (all_placed c.args.tokens.now) (all_placed c.in-Some.rest.now) c.in-Some-decimal.ensures.0 c.in-Some-decimal.ensures.1 (search rules)

pub returns-in-None-decimal : goal.returns-in-None-decimal
returns-in-None-decimal c = λ group.
    let n = c.in-Numeric.numeral in
    long (BehindRelation c.args.relation group) (BehindUnary group) (tokens.Numeric n.whole.now n.fraction.now) (all_placed c.args.tokens.now) (all_placed c.in-Some.rest.now) refl c.in-None-decimal.ensures (search rules)

pub returns-in-Minus : goal.returns-in-Minus
returns-in-Minus c =
    minus_reads c.args.relation (all_placed c.args.tokens.now) (all_placed c.in-Some.rest.now) c.negative.result (search rules) c.negative.ensures

pub returns-in_default : goal.returns-in_default
returns-in_default c = λ group. stuck (BehindRelation c.args.relation group) begins_operand (all_placed c.args.tokens.now) refl (no_operand c.args.relation group) (search rules)

pub returns-in-None : goal.returns-in-None
returns-in-None c = λ group. stuck (BehindRelation c.args.relation group) begins_operand (all_placed c.args.tokens.now) refl (no_operand c.args.relation group) (nothing_comes begins_operand c.args.tokens.now c.in-None.ensures.cases)
