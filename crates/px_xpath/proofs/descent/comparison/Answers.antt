use Rattle.std.proofs.lemmas.Result.{err_from_is_err_and}
use Rattle.px_xpath.specs.TokenViews.{all_placed}
use Rattle.px_xpath.proofs.Walks.{stops_behind}
use Rattle.px_xpath.proofs.Phrases.{path_ends, compared, relation_first}
use Rattle.px_xpath.specs.Views.{way}
use Rattle.px_xpath.proofs.descent.comparison.Goals as goal

pub returns-in_err-value-in-Some : goal.returns-in_err-value-in-Some
returns-in_err-value-in-Some c =
    let p = err_from_is_err_and c.from_residual.result c.from_residual.ensures.1 in
    rw (p.1, p.2) (λ group.
    stops_behind c.in_err-value-in-Some.field-0.0 (relation_first c.in-Some.relation (all_placed c.args.tokens.now) (all_placed c.in-Some.rest.now) c.in-Some.ensures group) (c.in_err-value-in-Some.ensures group))

pub returns-in_ok-value-in-Some : goal.returns-in_ok-value-in-Some
returns-in_ok-value-in-Some c =
    let read = c.in_ok-value-in-Some.ensures in
    compared (way c.args.path) c.in-Some.relation c.in_ok-value-in-Some.value (all_placed c.args.tokens.now) (all_placed c.in-Some.rest.now) (all_placed c.in_ok-value-in-Some.rest.now) c.in-Some.ensures read.0 read.1

pub returns-in-None : goal.returns-in-None
returns-in-None c = path_ends (way c.args.path) (all_placed c.args.tokens.now) c.in-None.ensures
