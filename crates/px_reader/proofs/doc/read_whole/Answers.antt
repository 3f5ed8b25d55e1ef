-- The document is read to its end, or to its fault.
use Rattle.std.proofs.Common.{◌≡◌, ◌≤◌, ◌++◌, List, length, ap, sym, ◌∙◌, subst}
use Rattle.std.proofs.lemmas.Result.{err_from_is_err_and}
use Rattle.px_reader.specs.declared.event.Event.{Event}
use Rattle.px_reader.specs.Verdicts.{AreTreeEvents}
use Rattle.px_reader.proofs.Feeding.{begun_fault, two_parts, count_none}
use Rattle.px_reader.proofs.Telling.{HasTold, told_begun, told_more, told_all, told_tree, told_few}
use Rattle.px_reader.proofs.doc.read_whole.Goals as goal

pub returns-in_err-feed-clause-fault : goal.returns-in_err-feed-clause-fault
returns-in_err-feed-clause-fault c =
    let rest = c.loop-rest.rest.now in
    let piece = c.split_at.result.0.now in
    let behind = c.split_at.result.1.now in
    let answer = err_from_is_err_and c.from_residual-in_err-feed.result c.from_residual-in_err-feed.ensures.1 in
    rw (answer.1, answer.2)
    (begun_fault c.loop-rest.reader c.args.bytes.now rest piece behind c.in_err-feed.field-0.0 (told_begun c.loop-rest.reader c.args.bytes.now rest c.loop-rest.events c.loop-rest.invariant.told)
    (two_parts c.min.result rest piece behind c.split_at.ensures.front c.split_at.ensures.back)
    c.in_err-feed.ensures.fault)

pub loop-rest-preserved : goal.loop-rest-preserved
loop-rest-preserved c =
    let rest = c.loop-rest.rest.now in
    let piece = c.split_at.result.0.now in
    let behind = c.split_at.result.1.now in
    let more = told_more c.loop-rest.reader c.feed.new.self c.args.bytes.now rest piece behind c.loop-rest.events c.loop-rest.next.items c.feed.new.out.items c.loop-rest.invariant.told
    (two_parts c.min.result rest piece behind c.split_at.ensures.front c.split_at.ensures.back) c.in_ok-feed.ensures.reads c.loop-rest.invariant.none in
    let all : c.push_all.new.self ≡ c.loop-rest.events ++ c.feed.new.out.items = c.in_ok-push_all.ensures.ok ∙ ap (λ es. c.loop-rest.events ++ es) c.as_slice.ensures.value in
    record { told = subst (λ es. HasTold c.feed.new.self c.args.bytes.now behind es) (sym all) more; none = c.clear.ensures.items }

pub returns-in_err-end-clause-fault : goal.returns-in_err-end-clause-fault
returns-in_err-end-clause-fault c =
    let none = count_none (length c.loop-rest.rest.now) c.is_empty.result c.is_empty.ensures c.loop-rest-test.false in
    let read = told_all c.loop-rest.reader c.args.bytes.now c.loop-rest.rest.now c.loop-rest.events c.loop-rest.invariant.told none in
    let answer = err_from_is_err_and c.from_residual-in_err-end.result c.from_residual-in_err-end.ensures.1 in
    rw (answer.1, answer.2) (c.in_err-end.ensures.fault c.args.bytes.now c.loop-rest.events read)

pub returns-clause-spelt : goal.returns-clause-spelt
returns-clause-spelt c =
    let none = count_none (length c.loop-rest.rest.now) c.is_empty.result c.is_empty.ensures c.loop-rest-test.false in
    let read = told_all c.loop-rest.reader c.args.bytes.now c.loop-rest.rest.now c.loop-rest.events c.loop-rest.invariant.told none in
    let t = c.in_ok-end.ensures.tree c.args.bytes.now c.loop-rest.events read in ∣ (t.0, t.4) ∣₁

pub returns-clause-events : goal.returns-clause-events
returns-clause-events c =
    let none = count_none (length c.loop-rest.rest.now) c.is_empty.result c.is_empty.ensures c.loop-rest-test.false in
    let read = told_all c.loop-rest.reader c.args.bytes.now c.loop-rest.rest.now c.loop-rest.events c.loop-rest.invariant.told none in
    let are = told_tree c.args.bytes.now c.loop-rest.events c.loop-rest.next.items c.end.new.out.items (c.in_ok-end.ensures.tree c.args.bytes.now c.loop-rest.events read) c.loop-rest.invariant.none in
    let all : c.push_all-2.new.self ≡ c.loop-rest.events ++ c.end.new.out.items = c.in_ok-push_all-2.ensures.ok ∙ ap (λ es. c.loop-rest.events ++ es) c.as_slice-2.ensures.value in
    subst (λ es. AreTreeEvents c.args.bytes.now es) (sym all) are

pub returns-clause-few : goal.returns-clause-few
returns-clause-few c =
    let none = count_none (length c.loop-rest.rest.now) c.is_empty.result c.is_empty.ensures c.loop-rest-test.false in
    let read = told_all c.loop-rest.reader c.args.bytes.now c.loop-rest.rest.now c.loop-rest.events c.loop-rest.invariant.told none in
    let few = told_few c.loop-rest.events c.loop-rest.next.items c.end.new.out.items (c.end.ensures.gives c.args.bytes.now c.loop-rest.events read) c.loop-rest.invariant.none in
    let all : c.push_all-2.new.self ≡ c.loop-rest.events ++ c.end.new.out.items = c.in_ok-push_all-2.ensures.ok ∙ ap (λ es. c.loop-rest.events ++ es) c.as_slice-2.ensures.value in
    subst (λ (es : List Event). length es ≤ 16_777_216) (sym all) few
