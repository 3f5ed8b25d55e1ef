use Rattle.std.proofs.Common.{◌≡◌, ◌∷◌}
use Rattle.px_pool.proofs.Places.{place_goes_on}
use Rattle.px_pool.proofs.gather.place.Goals as goal

pub loop-answer-preserved : goal.loop-answer-preserved
loop-answer-preserved c =
    let step : c.loop-answer.answer-iterator.rest.items ≡ c.in-Some.answer ∷ c.next.new.self.rest.items = c.in-Some.ensures.steps.0 in
    let put = c.put.ensures in
    place_goes_on c.args.answers.items c.args.slots.now.items c.loop-answer.slots.items c.put.new.slots.items c.loop-answer.yielded c.loop-answer.answer-iterator.rest.items c.next.new.self.rest.items c.in-Some.answer c.loop-answer.invariant step put
