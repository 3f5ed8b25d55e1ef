use Rattle.std.proofs.Common.{ap, subst, List, ℕ}
use Rattle.px_text.specs.Sets.{Rising}
use Rattle.px_afa.specs.Lists.{row}
use Rattle.px_machine.specs.Shelves.{Shelf}
use Rattle.px_machine.proofs.Shelved.{risen-at}
use Rattle.px_machine.proofs.sets.Sets.at.Goals as goal

pub returns-clause-rising : goal.returns-clause-rising
returns-clause-rising c = subst (λ (shelf : Shelf). Rising (row shelf.lists c.args.n)) c.self.view_is (risen-at c.self.inside.lists.lists c.args.n c.self.invariant)
