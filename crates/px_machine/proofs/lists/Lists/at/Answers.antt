use Rattle.std.proofs.Common.{◌-◌, ap, ◌∙◌, sym, ◌≤◌, length, subst}
use Rattle.px_machine.specs.declared.lists.Span.{Span}
use Rattle.px_machine.specs.Shelves.{Shelf, cut}
use Rattle.px_machine.proofs.Shelved.{under-span, within-at, list-under}
use Rattle.px_machine.proofs.lists.Lists.at.Goals as goal

pub part_of-requires : goal.part_of-requires
part_of-requires c =
    let less = under-span c.self.inside.items.items c.self.inside.spans.items c.args.self.now.lists c.args.n (ap (λ (s : Shelf). s.lists) c.self.view_is) c.requires.there c.if-n-eq0.false in
    let within = within-at (length c.self.inside.items.items) c.self.inside.spans.items (c.args.n - 1) c.index-span.result.now c.self.invariant less c.index-span.ensures in
    record { order = within.0; within = subst (λ xs. c.index-span.result.now.end ≤ length xs) (sym c.as_slice.ensures.value) within.1 }

pub returns : goal.returns
returns c = record {
  list =
      list-under c.self.inside.items.items c.part_of.result.now c.self.inside.spans.items c.args.self.now.lists c.args.n c.index-span.result.now (ap (λ (s : Shelf). s.lists) c.self.view_is) c.requires.there c.if-n-eq0.false
      c.index-span.ensures (c.part_of.ensures.part ∙ ap (λ xs. cut xs c.index-span.result.now) c.as_slice.ensures.value);
}
