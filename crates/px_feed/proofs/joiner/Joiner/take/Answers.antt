-- Line after line of the piece is taken, and then what is left of it.
use Rattle.std.proofs.Common.{rules, ◌≡◌, ◌∙◌, ◌+◌, ◌-◌, Ok, ap, sym, subst, refl, length, length-append, true, arith}
use Rattle.px_reader.specs.Lines.{is_ended}
use Rattle.px_reader.proofs.Feeding.{two_parts}
use Rattle.px_reader.proofs.Feeds.{feed_none, feed_found}
use Rattle.px_feed.specs.Joining.{JoinsLine}
use Rattle.px_feed.proofs.Pieces.{takes_none, takes_line, brings_fault, brings_item, brings_nothing, brings_last_fault, counted_all}
use Rattle.px_feed.proofs.joiner.Joiner.take.Goals as goal

pub loop-feed-init : goal.loop-feed-init
loop-feed-init c = takes_none c.args.self.now c.args.piece.now

pub split_at-requires : goal.split_at-requires
split_at-requires c = let h = c.in-Some.ensures.0.high in omega arith

pub end_line-requires : goal.end_line-requires
end_line-requires c =
    let found = c.in-Some.ensures in
    subst (λ bs. is_ended bs ≡ true) (sym c.split_at.ensures.front) (feed_found c.loop-feed.rest.now c.in-Some.feed found.0.high found.0.before found.1)

pub loop-feed-smaller : goal.loop-feed-smaller
loop-feed-smaller c =
    let cut = two_parts (c.in-Some.feed + 1) c.loop-feed.rest.now c.split_at.result.0.now c.split_at.result.1.now c.split_at.ensures.front c.split_at.ensures.back in
    let h = c.in-Some.ensures.0.high in
    let f = c.split_at.ensures.front_len in
    let l = ap length cut ∙ length-append c.split_at.result.0.now c.split_at.result.1.now in
    search (rules, l, f, h)

pub loop-feed-preserved : goal.loop-feed-preserved
loop-feed-preserved c =
    let line = c.split_at.result.0.now in
    let behind = c.split_at.result.1.now in
    let cut = two_parts (c.in-Some.feed + 1) c.loop-feed.rest.now line behind c.split_at.ensures.front c.split_at.ensures.back in
    takes_line c.args.self.now c.loop-feed.self c.end_line.new.self c.args.piece.now c.loop-feed.rest.now line behind c.loop-feed.invariant cut c.in-Ok-None.ensures.counted
    (subst (λ o. JoinsLine c.loop-feed.self line (Ok o) c.end_line.new.self) c.in-Ok-None.field-0-is c.in-Ok-None.ensures.joins)

pub overflow_sub-used : goal.overflow_sub-used
overflow_sub-used c =
    let cut = two_parts (c.in-Some.feed + 1) c.loop-feed.rest.now c.split_at.result.0.now c.split_at.result.1.now c.split_at.ensures.front c.split_at.ensures.back in
    let l = ap length cut ∙ length-append c.split_at.result.0.now c.split_at.result.1.now in
    let p = ap length c.loop-feed.invariant.piece_is ∙ length-append c.loop-feed.invariant.done c.loop-feed.rest.now in
    omega arith

pub returns-in-Ok-Some-clause-counted : goal.returns-in-Ok-Some-clause-counted
returns-in-Ok-Some-clause-counted c = λ e. absurd (cc)

pub returns-in-Ok-Some-clause-brings : goal.returns-in-Ok-Some-clause-brings
returns-in-Ok-Some-clause-brings c =
    let line = c.split_at.result.0.now in
    let behind = c.split_at.result.1.now in
    let cut = two_parts (c.in-Some.feed + 1) c.loop-feed.rest.now line behind c.split_at.ensures.front c.split_at.ensures.back in
    brings_item c.args.self.now c.loop-feed.self c.end_line.new.self c.args.piece.now c.loop-feed.rest.now line behind c.in-Ok-Some.item (length c.args.piece.now - length behind) c.loop-feed.invariant cut
    (subst (λ o. JoinsLine c.loop-feed.self line (Ok o) c.end_line.new.self) c.in-Ok-Some.field-0-is c.in-Ok-Some.ensures.joins) refl

pub returns-in-Ok-Some-clause-within : goal.returns-in-Ok-Some-clause-within
returns-in-Ok-Some-clause-within c = omega arith

pub returns-in-Err-clause-counted : goal.returns-in-Err-clause-counted
returns-in-Err-clause-counted c = λ e. absurd (cc)

pub returns-in-Err-clause-brings : goal.returns-in-Err-clause-brings
returns-in-Err-clause-brings c =
    let line = c.split_at.result.0.now in
    let behind = c.split_at.result.1.now in
    let cut = two_parts (c.in-Some.feed + 1) c.loop-feed.rest.now line behind c.split_at.ensures.front c.split_at.ensures.back in
    brings_fault c.args.self.now c.loop-feed.self c.end_line.new.self c.end_line.new.self c.args.piece.now c.loop-feed.rest.now line behind c.in-Err.failure c.loop-feed.invariant cut c.in-Err.ensures.joins

pub begin_line-requires : goal.begin_line-requires
begin_line-requires c = feed_none c.loop-feed.rest.now c.in_default.ensures

pub returns-in-Ok-clause-counted : goal.returns-in-Ok-clause-counted
returns-in-Ok-clause-counted c = λ e. counted_all c.args.self.now c.loop-feed.self c.begin_line.new.self c.args.piece.now c.loop-feed.rest.now c.loop-feed.invariant c.in-Ok.ensures.counted

pub returns-in-Ok-clause-brings : goal.returns-in-Ok-clause-brings
returns-in-Ok-clause-brings c =
    brings_nothing c.args.self.now c.loop-feed.self c.begin_line.new.self c.args.piece.now c.loop-feed.rest.now c.in-Ok.field-0 c.loop-feed.invariant c.in-Ok.ensures.joins

pub returns-in-Err-begin_line-clause-counted : goal.returns-in-Err-begin_line-clause-counted
returns-in-Err-begin_line-clause-counted c = λ e. absurd (cc)

pub returns-in-Err-begin_line-clause-brings : goal.returns-in-Err-begin_line-clause-brings
returns-in-Err-begin_line-clause-brings c =
    brings_last_fault c.args.self.now c.loop-feed.self c.begin_line.new.self c.begin_line.new.self c.args.piece.now c.loop-feed.rest.now c.in-Err-begin_line.failure c.loop-feed.invariant c.in-Err-begin_line.ensures.joins
