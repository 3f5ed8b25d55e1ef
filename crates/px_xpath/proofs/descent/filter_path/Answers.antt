use Rattle.std.proofs.lemmas.Result.{err_from_is_err_and}
use Rattle.std.proofs.Common.{◌≡◌, length, sym, ◌∙◌}
use borrow.Author.Tests.{eqb-true}
use Rattle.px_xpath.specs.TokenViews.{all_placed}
use Rattle.px_xpath.specs.Views.{way}
use Rattle.px_xpath.proofs.Start.{filter_stops, filter_writes, filter_leads, filter_trails, start_stuck}
use Rattle.px_xpath.proofs.descent.filter_path.Goals as goal

pub returns-in_err-steps-in-Some : goal.returns-in_err-steps-in-Some
returns-in_err-steps-in-Some c =
    let p = err_from_is_err_and c.from_residual.result c.from_residual.ensures.1 in
    rw (p.1, p.2)
    (filter_stops c.in-Some.axis (all_placed c.args.tokens.now) (all_placed c.in-Some.behind.now) c.in_err-steps-in-Some.field-0.0 c.in-Some.ensures c.in_err-steps-in-Some.ensures)

pub returns-then-is_empty : goal.returns-then-is_empty
returns-then-is_empty c =
    let ts = all_placed c.args.tokens.now in
    let behind = all_placed c.in-Some.behind.now in
    let rest = c.in_ok-steps-in-Some.rest.now in
    let read = c.in_ok-steps-in-Some.ensures in
    let none : length rest ≡ 0 = eqb-true (length rest) 0 (sym c.is_empty.ensures ∙ c.if-is_empty.true) in (
      filter_writes c.in-Some.axis c.in_ok-steps-in-Some.steps (way c.path_of.result) ts behind rest c.in-Some.ensures read.0 c.path_of.ensures none,
      filter_leads c.in-Some.axis ts behind rest c.in-Some.ensures read.1 none,
    )

pub returns-else-is_empty : goal.returns-else-is_empty
returns-else-is_empty c =
    filter_trails c.in-Some.axis (all_placed c.args.tokens.now) (all_placed c.in-Some.behind.now) c.in_ok-steps-in-Some.rest.now c.in-Some.ensures
    c.in_ok-steps-in-Some.ensures.1 (sym c.is_empty.ensures ∙ c.if-is_empty.false)

pub returns-in-None : goal.returns-in-None
returns-in-None c = start_stuck (all_placed c.args.tokens.now) c.in-None.ensures
