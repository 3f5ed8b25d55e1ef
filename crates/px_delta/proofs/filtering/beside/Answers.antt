-- The parts of the reply.
use Rattle.std.proofs.Common.{Bool, ap, arith, ◌∙◌}
use Rattle.px_xpath.specs.Filters.{Way}
use Rattle.px_xpath.specs.Meaning.{holds}
use Rattle.px_xpath.specs.Subscribed.{subscriptions}
use Rattle.px_workload.specs.Changes.{history}
use Rattle.px_hub.specs.Calls.{seen_of}
use Rattle.px_delta.specs.Lists.{merge, without_ids, matching}
use Rattle.px_delta.proofs.Fronts.{replies}
use Rattle.px_delta.proofs.Stepping.{steps_few}
use Rattle.px_delta.proofs.filtering.beside.Goals as goal

pub answer-requires-clause-few : goal.answer-requires-clause-few
answer-requires-clause-few g c =
    let r = c.requires.reply in
    let few = steps_few (history (seen_of c.args.base.now)) r.0 c.args.events.now 16_777_216 r.1 c.requires.few in
    let all = r.2.all_steps in
    omega (arith, few, all)

pub returns-clause-reply : goal.returns-clause-reply
returns-clause-reply g c = λ root e is.
    let dropped = subscriptions c.in_ok-changes.changes.dropped.items in
    let added = subscriptions c.in_ok-changes.changes.added.items in
    let test : Way → Bool = λ filter. holds filter root in
    replies c.same_filters_are_told.ensures c.two_live_lists_make_one.ensures (seen_of c.args.base.now) (seen_of c.args.front.now) c.in_ok-changes.changes c.args.reply c.answer.result root c.in_ok-changes.ensures is
    (c.answer.ensures.version ∙ c.version.ensures.version) c.answer.ensures.base
    (c.answer.ensures.ids ∙ c.in_ok-ids.ensures root e ∙ ap (λ ns. merge (without_ids ns dropped) (matching test added)) c.as_slice.ensures.same)
    c.answer.ensures.dropped c.answer.ensures.added c.answer.ensures.steps
