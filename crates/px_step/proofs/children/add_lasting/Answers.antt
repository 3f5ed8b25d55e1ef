use Rattle.std.proofs.Common.{sym, ◌∙◌}
use Rattle.px_step.proofs.Popped.{none_last}
use Rattle.px_step.proofs.children.add_lasting.Goals as goal

pub returns-then-not-is_element : goal.returns-then-not-is_element
returns-then-not-is_element c = record { added = none_last c.args.program.now.states c.args.label c.args.given.now.items c.args.set.now (sym c.is_element.ensures.value ∙ c.if-not-is_element.true) }
