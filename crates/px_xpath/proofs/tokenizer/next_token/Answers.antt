use Rattle.px_xpath.specs.TokenViews.{token}
use Rattle.px_xpath.proofs.Listing.{follows}
use Rattle.px_xpath.proofs.Names.{not_empty, some_bytes}
use Rattle.px_xpath.proofs.tokenizer.next_token.Goals as goal

pub returns : goal.returns
returns c =
    let start = c.behind_white-start.result.now in
    let some = not_empty start c.is_empty.result c.is_empty.ensures c.if-is_empty.false in
    follows c.args.place c.args.is_behind_operand c.args.text.now start c.behind.result.now (token c.token_at-found.result.token) c.token_at-found.result.bytes
    c.behind_white-start.ensures.same some c.token_at-found.ensures.same c.behind.ensures (c.token_at-found.ensures.within (some_bytes start some))
    c.behind_white-start.ensures.within
