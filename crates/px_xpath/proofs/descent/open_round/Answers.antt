use Rattle.std.proofs.Common.{refl, rules, arith}
use Rattle.px_xpath.specs.Tokens as tokens
use Rattle.px_xpath.specs.TokenViews.{all_placed}
use Rattle.px_xpath.specs.Machine.{Round, BeforeUnary, BehindNot}
use Rattle.px_xpath.specs.Reads.{is_open}
use Rattle.px_xpath.proofs.Walks.{stuck, nested, nothing_comes}
use Rattle.px_xpath.proofs.Stuck.{no_negation}
use Rattle.px_xpath.proofs.descent.open_round.Goals as goal

pub returns-in-None-checked_sub : goal.returns-in-None-checked_sub
returns-in-None-checked_sub c = λ group height.
    nested (BehindNot group) (BeforeUnary (Round group)) tokens.Open (all_placed c.args.tokens.now) (all_placed c.in-Some.rest.now) refl (omega (arith, c.in-None-checked_sub.ensures)) (search rules)

pub returns-in_default : goal.returns-in_default
returns-in_default c = λ group height. stuck (BehindNot group) is_open (all_placed c.args.tokens.now) refl (no_negation group) (search rules)

pub returns-in-None : goal.returns-in-None
returns-in-None c = λ group height. stuck (BehindNot group) is_open (all_placed c.args.tokens.now) refl (no_negation group) (nothing_comes is_open c.args.tokens.now c.in-None.ensures.cases)
