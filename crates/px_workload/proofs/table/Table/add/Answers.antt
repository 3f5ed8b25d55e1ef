use Rattle.std.proofs.Common.{◌+◌, ◌∙◌, ap, arith, length, Some}
use Rattle.px_workload.specs.Slots.{listed}
use Rattle.px_workload.proofs.Listing.{added-size, listed_from-grows}
use Rattle.px_workload.proofs.table.Table.add.Goals as goal

pub push-requires-clause-fits : goal.push-requires-clause-fits
push-requires-clause-fits c =
    omega (arith, c.requires.small, c.args.self.now.sums, added-size c.args.self.now.slots.items c.args.filter (length c.args.self.now.slots.items + 1))

pub returns-clause-listed : goal.returns-clause-listed
returns-clause-listed c =
    ap listed c.push.ensures.slots
    ∙ listed_from-grows 0 c.args.self.now.slots.items (Some c.args.filter) (length c.args.self.now.slots.items + 1) (omega arith)
