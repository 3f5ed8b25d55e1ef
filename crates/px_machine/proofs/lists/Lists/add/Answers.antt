use Rattle.std.proofs.Common.{ap}
use Rattle.px_machine.specs.Shelves.{Shelf}
use Rattle.px_machine.proofs.Shelved.{within-appended, shelf-appended}
use Rattle.px_machine.proofs.lists.Lists.add.Goals as goal

pub invariant_of-self-2 : goal.invariant_of-self-2
invariant_of-self-2 c =
    within-appended c.self.inside.items.items c.args.list.now c.append.new.items.items c.self.inside.spans.items c.append.new.spans.items c.args.hash
    c.in_ok-append.ensures.items c.in_ok-append.ensures.spans c.self.invariant

pub returns-clause-ok : goal.returns-clause-ok
returns-clause-ok c =
    shelf-appended c.self.inside.items.items c.args.list.now c.append.new.items.items c.self.inside.spans.items c.append.new.spans.items c.args.self.now.lists c.args.hash
    c.in_ok-append.ensures.items c.in_ok-append.ensures.spans c.self.invariant (ap (λ (s : Shelf). s.lists) c.self.view_is)
