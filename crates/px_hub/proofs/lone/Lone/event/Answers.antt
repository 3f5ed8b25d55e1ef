use Rattle.std.proofs.Common.{◌+◌, refl, arith}
use Rattle.px_reader.specs.Happenings.{event_of}
use Rattle.px_hub.proofs.Counting.{depth_within, steps_within, steps_few, counted_ok}
use Rattle.px_hub.proofs.lone.Lone.event.Goals as goal

pub counted-steps-requires : goal.counted-steps-requires
counted-steps-requires c =
    let r = c.requires.begun in
    let deep = depth_within r.0 r.1 in
    let same = r.2.depth in
    let few = r.3 in omega arith

pub overflow_add-self : goal.overflow_add-self
overflow_add-self c =
    let r = c.requires.begun in
    let many = steps_within r.0 r.1 in
    let same = r.2.steps in
    let few = r.3 in
    let one = steps_few c.args.self.now.depth (event_of c.args.next) in
    let now = c.counted-steps.ensures.steps in omega arith

pub returns : goal.returns
returns c = record { ok = counted_ok c.args.self.now c.event.new.self c.counted-steps.result.1 (c.args.self.now.steps + c.counted-steps.result.0) (event_of c.args.next) c.event.result c.counted-steps.result.0 c.counted-steps.ensures.steps c.counted-steps.ensures.depth refl c.event.ensures.ok }
