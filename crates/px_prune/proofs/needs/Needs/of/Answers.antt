use Rattle.std.proofs.Common.{◌∙◌, ap}
use Rattle.px_prune.specs.Rows.{row_in}
use Rattle.px_prune.proofs.KeptRows.{row_there, row-within, seen_at}
use Rattle.px_prune.proofs.needs.Needs.of.Goals as goal

pub part-requires-clause-forward : goal.part-requires-clause-forward
part-requires-clause-forward c =
    (row-within _ c.self.inside.rows.items c.args.n c.index.result.now c.self.invariant (row_there (row_in c.self.inside.items.items) c.self.inside.rows.items c.args.self.now c.args.n c.self.view_is c.requires.there) c.index.ensures).0

pub part-requires-clause-within : goal.part-requires-clause-within
part-requires-clause-within c =
    rw c.deref.ensures.value
    (row-within _ c.self.inside.rows.items c.args.n c.index.result.now c.self.invariant (row_there (row_in c.self.inside.items.items) c.self.inside.rows.items c.args.self.now c.args.n c.self.view_is c.requires.there) c.index.ensures).1

pub returns : goal.returns
returns c = record {
  row =
      seen_at (row_in c.self.inside.items.items) c.self.inside.rows.items c.args.self.now c.args.n c.index.result.now c.part.result.now c.self.view_is
      (row_there (row_in c.self.inside.items.items) c.self.inside.rows.items c.args.self.now c.args.n c.self.view_is c.requires.there) c.index.ensures
      (c.part.ensures.part ∙ ap (λ z. row_in z c.index.result.now) c.deref.ensures.value);
}
