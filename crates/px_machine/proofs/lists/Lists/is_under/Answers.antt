use Rattle.std.proofs.Common.{ap, sym, ◌∙◌, ◌≤◌, length, arith}
use Rattle.std.proofs.lemmas.Slice.Eq.{bytes_eq-Decides}
use Rattle.px_machine.specs.Shelves.{Shelf}
use Rattle.px_machine.proofs.Shelved.{within-shelf}
use Rattle.px_machine.proofs.lists.Lists.is_under.Goals as goal

pub returns : goal.returns
returns c = record {
  under = λ t. (
    within-shelf c.self.inside.items.items c.self.inside.spans.items c.args.self.now.lists c.args.n c.len.result (ap (λ (s : Shelf). s.lists) c.self.view_is) (c.len.ensures ∙ c.self.inside.spans.ok.0) c.if-n-len.false,
    sym c.at.ensures.list ∙ (bytes_eq-Decides c.at.result.now c.args.list.now).0 (sym c.eq.ensures ∙ t),
  );
}
