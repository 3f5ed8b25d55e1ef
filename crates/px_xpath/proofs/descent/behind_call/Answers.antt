use Rattle.std.proofs.Common.{refl, rules}
use Rattle.px_xpath.specs.declared.descent.Reason.TheVariants.{NotAFilter}
use Rattle.px_xpath.specs.declared.descent.Bracket.TheVariants as bracket
use Rattle.px_xpath.specs.Tokens as tokens
use Rattle.px_xpath.specs.TokenViews.{all_placed}
use Rattle.px_xpath.specs.Machine.{BehindText, BehindTextOpen}
use Rattle.px_xpath.specs.Reads.{is_open, closes}
use Rattle.px_xpath.proofs.Walks.{move, stuck, behind, nothing_comes}
use Rattle.px_xpath.proofs.Stuck.{no_call, no_call_end}
use Rattle.px_xpath.proofs.descent.behind_call.Goals as goal

pub returns-in-None-behind_closer : goal.returns-in-None-behind_closer
returns-in-None-behind_closer c = λ around.
    behind NotAFilter (move (BehindText around) (BehindTextOpen around) tokens.Open (all_placed c.args.tokens.now) (all_placed c.in-Some.inside.now) refl refl (search rules))
    (stuck (BehindTextOpen around) (closes bracket.Round) (all_placed c.in-Some.inside.now) refl (no_call_end around) c.in-None-behind_closer.ensures)

pub returns-in_default : goal.returns-in_default
returns-in_default c = λ around. stuck (BehindText around) is_open (all_placed c.args.tokens.now) refl (no_call around) (search rules)

pub returns-in-None : goal.returns-in-None
returns-in-None c = λ around. stuck (BehindText around) is_open (all_placed c.args.tokens.now) refl (no_call around) (nothing_comes is_open c.args.tokens.now c.in-None.ensures.cases)
