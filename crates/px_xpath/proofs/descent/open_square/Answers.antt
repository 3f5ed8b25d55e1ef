use Rattle.std.proofs.Common.{refl, rules, arith}
use Rattle.px_xpath.specs.Tokens as tokens
use Rattle.px_xpath.specs.TokenViews.{all_placed}
use Rattle.px_xpath.specs.Machine.{Square, BehindElement, BeforeUnary}
use Rattle.px_xpath.proofs.Walks.{nested}
use Rattle.px_xpath.proofs.descent.open_square.Goals as goal

pub returns-in-None-checked_sub : goal.returns-in-None-checked_sub
returns-in-None-checked_sub c = λ around height.
    nested (BehindElement around) (BeforeUnary (Square around)) tokens.OpenSquare (all_placed c.args.tokens.now) (all_placed c.in-Some.rest.now) refl (omega (arith, c.in-None-checked_sub.ensures)) (search rules)
