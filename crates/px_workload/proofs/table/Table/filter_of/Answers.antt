use Rattle.std.proofs.Common.{None, sym, ap, ◌∙◌, option_map, le_refl, arith, ◌-◌}
use Rattle.px_workload.specs.Slots.{named}
use Rattle.px_workload.proofs.Listing.{find-above, found-slot, named-copied, small-copied, small-slot}
use Rattle.px_workload.proofs.table.Table.filter_of.Goals as goal

pub returns-then-id-eq0-clause-found : goal.returns-then-id-eq0-clause-found
returns-then-id-eq0-clause-found c = sym (find-above 0 c.args.self.now.slots.items c.args.id (omega arith))

pub returns-in-Some-clause-found : goal.returns-in-Some-clause-found
returns-in-Some-clause-found c =
    let slot = rw c.deref.ensures.value at c.in-Some.ensures.lookup.4 (le_refl _) None in
    named-copied c.args.id c.as_ref.result ∙ ap (option_map (named c.args.id)) c.as_ref.ensures.value
    ∙ found-slot c.args.self.now.slots.items c.args.id c.in-Some.slot.now c.if-id-eq0.false slot

pub returns-in-Some-clause-small : goal.returns-in-Some-clause-small
returns-in-Some-clause-small c =
    let slot = rw c.deref.ensures.value at c.in-Some.ensures.lookup.4 (le_refl _) None in
    let least = small-slot c.args.self.now.slots.items (c.args.id - 1) in
    let small = rw (sym slot) at least in
    small-copied c.as_ref.result c.in-Some.slot.now _ c.as_ref.ensures.value (omega (arith, small, c.args.self.now.sums, c.args.self.now.bounded))

pub returns-in-None-clause-found : goal.returns-in-None-clause-found
returns-in-None-clause-found c =
    let slot = rw c.deref.ensures.value at c.in-None.ensures.lookup.4 (le_refl _) None in
    found-slot c.args.self.now.slots.items c.args.id None c.if-id-eq0.false slot
