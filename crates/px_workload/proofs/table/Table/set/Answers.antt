use Rattle.std.proofs.Common.{◌-◌, ◌<◌, None, arith, slice_set, length}
use Rattle.std.proofs.lemmas.List.{get_or-set_same, length-set}
use Rattle.std.proofs.lemmas.List.Sums.{get_or-le-sum_by}
use Rattle.px_workload.specs.Slots.{slot_size}
use Rattle.px_workload.proofs.table.Table.set.Goals as goal

pub size_of_slot-grown-requires : goal.size_of_slot-grown-requires
size_of_slot-grown-requires c =
    let at = c.args.id - 1 in
    let slots = c.args.self.now.slots.items in
    let within : at < length slots = omega arith in
    let same = get_or-set_same slots at c.args.slot None within in
    let inside : at < length (slice_set slots at c.args.slot) = omega (arith, length-set slots at c.args.slot) in
    let least = get_or-le-sum_by slot_size (slice_set slots at c.args.slot) at None inside in
    let less = rw same at least in
    omega (arith, less)
