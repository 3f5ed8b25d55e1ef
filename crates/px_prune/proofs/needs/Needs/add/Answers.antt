use Rattle.std.proofs.Common.{◌∙◌}
use Rattle.px_prune.proofs.KeptRows.{grown-within, added-within, added-view}
use Rattle.px_prune.proofs.needs.Needs.add.Goals as goal

pub invariant_of-self-in_err-push : goal.invariant_of-self-in_err-push
invariant_of-self-in_err-push c =
    grown-within c.self.inside.items.items c.args.row.now c.extend_from_slice.new.self.items c.self.inside.rows.items c.push.new.self.items c.self.invariant
    c.in_ok-extend_from_slice.ensures.items c.in_err-push.ensures.items

pub invariant_of-self-2 : goal.invariant_of-self-2
invariant_of-self-2 c =
    added-within c.self.inside.items.items c.args.row.now c.extend_from_slice.new.self.items c.self.inside.rows.items c.push.new.self.items c.len-start.result c.len-end.result c.self.invariant
    c.in_ok-extend_from_slice.ensures.items (c.len-start.ensures ∙ c.self.inside.items.ok.0) (c.len-end.ensures ∙ c.extend_from_slice.new.self.ok.0) c.in_ok-push.ensures.items

pub returns : goal.returns
returns c = record {
  added =
      added-view c.self.inside.items.items c.args.row.now c.extend_from_slice.new.self.items c.self.inside.rows.items c.push.new.self.items c.len-start.result c.len-end.result c.args.self.now c.self.invariant
      c.in_ok-extend_from_slice.ensures.items (c.len-start.ensures ∙ c.self.inside.items.ok.0) (c.len-end.ensures ∙ c.extend_from_slice.new.self.ok.0) c.in_ok-push.ensures.items c.self.view_is;
}
