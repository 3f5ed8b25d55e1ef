-- Two parts and the colon between them are the longest name.
use Rattle.std.proofs.Common.{length, drop, take, ◌-◌, ◌∙◌, sym, ap}
use Rattle.px_xpath.specs.Tokens.{part}
use Rattle.px_xpath.proofs.Fronts.{rest_is}
use Rattle.px_xpath.proofs.Names.{joined, not_empty}
use Rattle.px_xpath.proofs.tokenizer.name_at.Goals as goal

pub returns-clause-same : goal.returns-clause-same
returns-clause-same c =
    let first = c.part-first.result.now in
    let second = c.part-second.result.now in
    let rest = take (length c.args.text.now - length first) (drop (length first) c.args.text.now) in
    joined c.args.text.now first rest second c.part-first.ensures.same (rest_is c.args.text.now (length first))
    (c.part-second.ensures.same ∙ ap part c.behind_first.ensures)
    (not_empty first c.is_empty.result c.is_empty.ensures c.if-is_empty.false)
    (sym c.starts_with_byte.ensures.same ∙ c.if-not-starts_with_byte.false)
    (not_empty second c.is_empty-2.result c.is_empty-2.ensures c.if-is_empty-2.false)
