use Rattle.std.proofs.Common.{sym, ◌∙◌}
use Rattle.std.proofs.lemmas.Bool.{eqb-true}
use Rattle.px_machine.proofs.Shelved.{empty-list}
use Rattle.px_machine.proofs.lists.Lists.find.Goals as goal

pub returns-then-is_empty : goal.returns-then-is_empty
returns-then-is_empty c = record {
  found = (c.first_is_empty.ensures.first.0, c.first_is_empty.ensures.first.1 ∙ sym (empty-list c.args.list.now (eqb-true _ 0 (sym c.is_empty.ensures ∙ c.if-is_empty.true))));
}
