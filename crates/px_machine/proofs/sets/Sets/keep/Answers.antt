use Rattle.std.proofs.Common.{◌≡◌, List, ℕ, sym, subst}
use Rattle.px_text.specs.Sets.{Rising}
use Rattle.px_machine.specs.Shelves.{Shelf, Grows, IsSameOrMore}
use Rattle.px_machine.proofs.Shelved.{risen-kept, grows-kept}
use Rattle.px_machine.proofs.sets.Sets.keep.Goals as goal

pub invariant_of-self : goal.invariant_of-self
invariant_of-self c =
    risen-kept c.self.inside.lists.lists c.keep.new.self.lists c.as_slice.result.now c.keep.ensures.only c.self.invariant c.as_slice.ensures.rising

pub returns-clause-grows : goal.returns-clause-grows
returns-clause-grows c =
    subst (λ (shelf : Shelf). Grows shelf.lists c.keep.new.self.lists) c.self.view_is (grows-kept c.self.inside.lists.lists c.keep.new.self.lists c.as_slice.result.now c.keep.ensures.only)
