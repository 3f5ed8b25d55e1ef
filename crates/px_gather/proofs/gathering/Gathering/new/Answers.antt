-- Before the first item.
use Rattle.px_gather.proofs.Taking.{begun}
use Rattle.px_gather.proofs.gathering.Gathering.new.Goals as goal

pub returns : goal.returns
returns c =
    begun (record { alloc = c.args.alloc; items = c.in_ok-new.field-0; documents = c.new-2.result; size = 0; outgoing = c.new-3.result })
    c.in_ok-new.ensures c.new-2.ensures.items c.new-3.ensures
