use Rattle.std.proofs.Common.{◌∙◌, ap, length}
use Rattle.px_text.specs.Names.{is_white}
use Rattle.px_text.specs.Numbers.{past, starts_with_byte}
use Rattle.px_xpath.specs.TokenViews.{token as view}
use Rattle.px_xpath.specs.Tokens.{word}
use Rattle.px_xpath.proofs.Fronts.{rest_is}
use Rattle.px_xpath.proofs.Names.{word_is, not_empty}
use Rattle.px_xpath.proofs.tokenizer.word_at.Goals as goal

pub returns-clause-same : goal.returns-clause-same
returns-clause-same c =
    let name = c.name_at-name.result.now in
    let behind = c.behind_white.ensures.same ∙ ap (past is_white) (rest_is c.args.text.now (length name)) in
    let bracket = c.starts_with_byte-is_before_bracket.ensures.same ∙ ap (starts_with_byte 40) behind in
    word_is c.args.is_behind_operand c.args.text.now name (view c.word.result) c.name_at-name.ensures.same
    (not_empty name c.is_empty.result c.is_empty.ensures c.if-is_empty.false)
    (c.word.ensures ∙ ap (λ b. word c.args.is_behind_operand b name) bracket)
