use Rattle.std.proofs.Common.{arith}
use Rattle.px_xpath.specs.TokenViews.{token as view}
use Rattle.px_xpath.proofs.Listing.{one_more, shorter, all_found, no_fuel, none_yet}
use Rattle.px_xpath.proofs.tokenizer.tokens_of.Goals as goal

pub returns-in_default : goal.returns-in_default
returns-in_default c =
    all_found c.args.text.now c.loop.index c.loop.is_behind_operand c.loop.rest.now c.loop.found.items c.in_default.ensures c.loop.invariant.so_far

pub loop-preserved : goal.loop-preserved
loop-preserved c =
    let next = c.in-Some.next in
    let behind = c.in-Some.behind.now in
    let more = one_more c.args.text.now c.loop.index c.loop.is_behind_operand c.loop.rest.now next behind c.loop.found.items c.loop.invariant.within c.loop-test.true
    c.in-Some.ensures c.loop.invariant.so_far in
    record {
      within = shorter c.args.text.now c.loop.rest.now c.loop.is_behind_operand next.at (view next.token) behind c.loop.invariant.within c.in-Some.ensures;
      so_far = rw (c.in_ok-push.ensures.items, c.ends_operand-is_behind_operand.ensures) more;
    }

pub loop-init : goal.loop-init
loop-init c = record { within = omega arith; so_far = none_yet c.args.text.now c.new-found.result.items c.new-found.ensures.items }

pub returns : goal.returns
returns c =
    no_fuel c.args.text.now c.loop.index c.loop.is_behind_operand c.loop.rest.now c.loop.found.items c.loop-test.false c.loop.invariant.so_far
