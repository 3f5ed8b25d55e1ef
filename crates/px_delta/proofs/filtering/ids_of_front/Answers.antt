use Rattle.px_delta.proofs.Fronts.{ids_told}
use Rattle.px_delta.proofs.filtering.ids_of_front.Goals as goal

pub returns : goal.returns
returns c =
    ids_told c.merged.result c.args.events.now c.args.of_base.now c.in_ok-of_added.of_added c.as_slice.result.now c.args.changes.now.dropped.items c.deref-2.result.now c.args.changes.now.added.items c.deref.result.now
    c.as_slice.ensures.same c.deref-2.ensures.value c.deref.ensures.value c.requires.added c.merged.ensures c.in_ok-of_added.ensures.ids
