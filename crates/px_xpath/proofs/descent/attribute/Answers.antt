use Rattle.std.proofs.Common.{refl, rules}
use Rattle.px_xpath.specs.TokenViews.{all_placed}
use Rattle.px_xpath.specs.Machine.{BehindAt}
use Rattle.px_xpath.specs.Reads.{is_name_test}
use Rattle.px_xpath.proofs.Walks.{stuck, nothing_comes}
use Rattle.px_xpath.proofs.Stuck.{no_attribute}
use Rattle.px_xpath.proofs.descent.attribute.Goals as goal

pub returns-in_default : goal.returns-in_default
returns-in_default c = λ around. stuck (BehindAt around) is_name_test (all_placed c.args.tokens.now) refl (no_attribute around) (search rules)

pub returns-in-None : goal.returns-in-None
returns-in-None c = λ around. stuck (BehindAt around) is_name_test (all_placed c.args.tokens.now) refl (no_attribute around) (nothing_comes is_name_test c.args.tokens.now c.in-None.ensures.cases)
