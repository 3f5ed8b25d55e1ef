use Rattle.std.proofs.Common.{◌∷◌, ◌++◌, [], ◌∙◌, ap, arith, None}
use Rattle.px_workload.specs.Slots.{listed}
use Rattle.px_workload.proofs.Listing.{live-from-1, live-within, emptied, emptied-size}
use Rattle.px_workload.proofs.table.Table.remove.Goals as goal

pub set-requires-clause-from_1 : goal.set-requires-clause-from_1
set-requires-clause-from_1 c = live-from-1 c.args.self.now.slots.items c.args.id c.requires.live

pub set-requires-clause-within : goal.set-requires-clause-within
set-requires-clause-within c =
    let within = live-within c.args.self.now.slots.items c.args.id c.requires.live in omega (arith, within)

pub set-requires-clause-fits : goal.set-requires-clause-fits
set-requires-clause-fits c =
    omega (arith, c.args.self.now.sums, c.args.self.now.bounded, emptied-size c.args.self.now.slots.items c.args.id c.requires.live)

pub returns-clause-listed : goal.returns-clause-listed
returns-clause-listed c =
    ap listed (c.push.ensures.slots ∙ ap (λ slots. slots ++ None ∷ []) c.set.ensures.slots)
    ∙ emptied c.args.self.now.slots.items c.args.id (live-from-1 c.args.self.now.slots.items c.args.id c.requires.live)

pub push-requires-clause-fits : goal.push-requires-clause-fits
push-requires-clause-fits c = omega (arith, c.set.new.self.bounded)
