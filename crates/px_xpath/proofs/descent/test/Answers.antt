use Rattle.std.proofs.Common.{refl, rules}
use Rattle.std.proofs.lemmas.Result.{err_from_is_err_and}
use Rattle.px_xpath.specs.Tokens as tokens
use Rattle.px_xpath.specs.TokenViews.{all_placed}
use Rattle.px_xpath.specs.Machine.{BeforeStep, BehindAt, BehindText}
use Rattle.px_xpath.specs.Reads.{begins_step}
use Rattle.px_xpath.proofs.Walks.{move, stuck, stops_behind, nothing_comes}
use Rattle.px_xpath.proofs.Stuck.{no_step}
use Rattle.px_xpath.proofs.Phrases.{attribute_stands, text_stands}
use Rattle.px_xpath.proofs.descent.test.Goals as goal

pub returns-in_err-test-in-At : goal.returns-in_err-test-in-At
returns-in_err-test-in-At c =
    let p = err_from_is_err_and c.from_residual.result c.from_residual.ensures.1 in
    rw (p.1, p.2) (λ around.
    stops_behind c.in_err-test-in-At.field-0.0 (move (BeforeStep around) (BehindAt around) tokens.At (all_placed c.args.tokens.now) (all_placed c.in-Some.rest.now) refl refl (search rules)) (c.in_err-test-in-At.ensures around))

pub returns-in_err-behind_call-in-TextWord : goal.returns-in_err-behind_call-in-TextWord
returns-in_err-behind_call-in-TextWord c =
    let p = err_from_is_err_and c.from_residual-in_err-behind_call-in-TextWord.result c.from_residual-in_err-behind_call-in-TextWord.ensures.1 in
    rw (p.1, p.2) (λ around.
    stops_behind c.in_err-behind_call-in-TextWord.field-0.0 (move (BeforeStep around) (BehindText around) tokens.TextWord (all_placed c.args.tokens.now) (all_placed c.in-Some.rest.now) refl refl (search rules)) (c.in_err-behind_call-in-TextWord.ensures around))

pub returns-in_ok-test-in-At : goal.returns-in_ok-test-in-At
returns-in_ok-test-in-At c =
    attribute_stands (all_placed c.args.tokens.now) (all_placed c.in-Some.rest.now) (all_placed c.in_ok-test-in-At.rest.now) c.in_ok-test-in-At.test (search rules) c.in_ok-test-in-At.ensures

pub returns-in_ok-behind_call-in-TextWord : goal.returns-in_ok-behind_call-in-TextWord
returns-in_ok-behind_call-in-TextWord c =
    let (us, opened, closed) = c.in_ok-behind_call-in-TextWord.ensures in
    text_stands (all_placed c.args.tokens.now) (all_placed c.in-Some.rest.now) us (all_placed c.in_ok-behind_call-in-TextWord.field-0.now) (search rules) opened closed

pub returns-in_default : goal.returns-in_default
returns-in_default c = λ around. stuck (BeforeStep around) begins_step (all_placed c.args.tokens.now) refl (no_step around) (search rules)

pub returns-in-None : goal.returns-in-None
returns-in-None c = λ around. stuck (BeforeStep around) begins_step (all_placed c.args.tokens.now) refl (no_step around) (nothing_comes begins_step c.args.tokens.now c.in-None.ensures.cases)
