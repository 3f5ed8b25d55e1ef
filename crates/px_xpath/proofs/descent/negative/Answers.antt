use Rattle.std.proofs.Common.{refl, rules}
use Rattle.px_xpath.specs.Tokens as tokens
use Rattle.px_xpath.specs.TokenViews.{all_placed}
use Rattle.px_xpath.specs.Machine.{BehindMinus, BehindUnary}
use Rattle.px_xpath.specs.Reads.{is_numeric}
use Rattle.px_xpath.proofs.Walks.{stuck, long, nothing_comes}
use Rattle.px_xpath.proofs.Stuck.{no_number}
use Rattle.px_xpath.proofs.Phrases.{negative_stands}
use Rattle.px_xpath.proofs.descent.negative.Goals as goal

pub returns-in-Some-decimal : goal.returns-in-Some-decimal
returns-in-Some-decimal c =
    let n = c.in-Numeric.numeral in
    negative_stands c.args.relation n.whole.now n.fraction.now c.in-Some-decimal.number (all_placed c.args.tokens.now) (all_placed c.in-Some.rest.now) c.in-Some-decimal.ensures.0 c.in-Some-decimal.ensures.1 (search rules)

pub returns-in-None-decimal : goal.returns-in-None-decimal
returns-in-None-decimal c = λ group.
    let n = c.in-Numeric.numeral in
    long (BehindMinus group) (BehindUnary group) (tokens.Numeric n.whole.now n.fraction.now) (all_placed c.args.tokens.now) (all_placed c.in-Some.rest.now) refl c.in-None-decimal.ensures (search rules)

pub returns-in_default : goal.returns-in_default
returns-in_default c = λ group. stuck (BehindMinus group) is_numeric (all_placed c.args.tokens.now) refl (no_number group) (search rules)

pub returns-in-None : goal.returns-in-None
returns-in-None c = λ group. stuck (BehindMinus group) is_numeric (all_placed c.args.tokens.now) refl (no_number group) (nothing_comes is_numeric c.args.tokens.now c.in-None.ensures.cases)
