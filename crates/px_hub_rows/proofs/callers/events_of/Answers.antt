-- The reader gives all events of the tree.
use Rattle.std.proofs.Common.{[], ◌++◌, ap, sym, ◌∙◌}
use Rattle.px_reader.specs.declared.event.Event.{Event}
use Rattle.px_hub_rows.proofs.callers.events_of.Goals as goal

pub returns : goal.returns
returns c =
    let on = c.in_ok-feed.ensures.reads [] [] c.in_ok-reader.ensures in
    let t = c.in_ok-end.ensures.tree _ _ on.2 in
    let first = on.1 ∙ ap (λ events. events ++ on.0) c.new-events.ensures.items in
    record { tree = (t.0, t.2 ∙ ap (λ events. events ++ t.1) first ∙ sym t.3) }
