use Rattle.px_rule.proofs.Lasting.{grew_look}
use Rattle.px_intern.proofs.sets.look_round.Goals as goal

pub returns-clause-grew : goal.returns-clause-grew
returns-clause-grew g c = grew_look _ _ _ _ c.args.seat.now.view c.look_step.new.seat.view c.look_step.ensures.view
