use Rattle.std.proofs.Common.{◌≡◌, ◌+◌, refl, rules, arith}
use Rattle.std.proofs.lemmas.Result.{err_from_is_err_and}
use Rattle.px_xpath.specs.declared.descent.Reason.TheVariants.{NotAFilter}
use Rattle.px_xpath.specs.Tokens as tokens
use Rattle.px_xpath.specs.TokenViews.{all_placed}
use Rattle.px_xpath.specs.Grammar as grammar
use Rattle.px_xpath.specs.Machine.{Round, BeforeUnary, BehindNot, BehindDot}
use Rattle.px_xpath.specs.Reads.{begins_condition, is_separator}
use Rattle.px_xpath.proofs.Walks.{move, stuck, nested, behind, stops_behind, nothing_comes, one_less}
use Rattle.px_xpath.proofs.Stuck.{no_dot}
use Rattle.px_xpath.proofs.Phrases.{negation_begins, bracket_begins, dot_begins, path_begins}
use Rattle.px_xpath.proofs.descent.condition_head.Goals as goal

pub returns-in_err-left-in-NotWord : goal.returns-in_err-left-in-NotWord
returns-in_err-left-in-NotWord c =
    let p = err_from_is_err_and c.from_residual.result c.from_residual.ensures.1 in
    rw (p.1, p.2) (λ group height.
    stops_behind c.in_err-left-in-NotWord.field-0.0 (move (BeforeUnary group) (BehindNot group) tokens.NotWord (all_placed c.args.tokens.now) (all_placed c.in-Some.rest.now) refl refl (search rules)) (c.in_err-left-in-NotWord.ensures group height))

pub returns-in_ok-left-in-NotWord : goal.returns-in_ok-left-in-NotWord
returns-in_ok-left-in-NotWord c =
    let opened = c.in_ok-left-in-NotWord.ensures in
    let n = negation_begins c.args.spare c.in_ok-left-in-NotWord.left (all_placed c.args.tokens.now) (all_placed c.in-Some.rest.now) (all_placed c.in_ok-left-in-NotWord.rest.now) (search rules) opened.0 opened.1 in
    let one = one_less tokens.NotWord (all_placed c.args.tokens.now) (all_placed c.in-Some.rest.now) (search rules) in
    let two = one_less tokens.Open (all_placed c.in-Some.rest.now) (all_placed c.in_ok-left-in-NotWord.rest.now) opened.0 in
    (opened.1, n.0, n.1, omega arith)

pub returns-in-Some-checked_sub : goal.returns-in-Some-checked_sub
returns-in-Some-checked_sub c =
    let left : c.in-Some-checked_sub.left + 1 ≡ c.args.spare = search rules in
    let b = bracket_begins c.args.spare c.in-Some-checked_sub.left (all_placed c.args.tokens.now) (all_placed c.in-Some.rest.now) (search rules) left in
    (left, b.0, b.1, one_less tokens.Open (all_placed c.args.tokens.now) (all_placed c.in-Some.rest.now) (search rules))

pub returns-in-None-checked_sub : goal.returns-in-None-checked_sub
returns-in-None-checked_sub c = λ group height.
    nested (BeforeUnary group) (BeforeUnary (Round group)) tokens.Open (all_placed c.args.tokens.now) (all_placed c.in-Some.rest.now) refl (omega (arith, c.in-None-checked_sub.ensures)) (search rules)

pub returns-in-Some-separator : goal.returns-in-Some-separator
returns-in-Some-separator c =
    let one = one_less tokens.Dot (all_placed c.args.tokens.now) (all_placed c.in-Some.rest.now) (search rules) in
    let two = one_less (grammar.separator c.in-Some-separator.axis) (all_placed c.in-Some.rest.now) (all_placed c.in-Some-separator.rest.now) c.in-Some-separator.ensures in
    let d = dot_begins c.in-Some-separator.axis (all_placed c.args.tokens.now) (all_placed c.in-Some.rest.now) (all_placed c.in-Some-separator.rest.now) (search rules) c.in-Some-separator.ensures in
    (d.0, d.1, omega arith)

pub returns-in-None-separator : goal.returns-in-None-separator
returns-in-None-separator c = λ group height.
    behind NotAFilter (move (BeforeUnary group) (BehindDot group) tokens.Dot (all_placed c.args.tokens.now) (all_placed c.in-Some.rest.now) refl refl (search rules))
    (stuck (BehindDot group) is_separator (all_placed c.in-Some.rest.now) refl (no_dot group) c.in-None-separator.ensures)

pub returns-in_default : goal.returns-in_default
returns-in_default c = let b = path_begins (all_placed c.args.tokens.now) (search rules) in (b.0, b.1, omega arith)

pub returns-in-None : goal.returns-in-None
returns-in-None c =
    let b = path_begins (all_placed c.args.tokens.now) (nothing_comes begins_condition c.args.tokens.now c.in-None.ensures.cases) in (b.0, b.1, omega arith)
