use Rattle.std.proofs.Common.{◌∙◌}
use Rattle.px_rule.proofs.Lasting.{grew_trans}
use Rattle.px_intern.proofs.Growing.{told_grew}
use Rattle.px_intern.proofs.sets.set_of.Goals as goal

pub elements_of_set-requires-clause-told : goal.elements_of_set-requires-clause-told
elements_of_set-requires-clause-told g c = let t = c.requires.told in
    (t.0, told_grew g.L.Law.right c.args.shared.now.shape c.args.seat.now.view c.look_round.new.seat.view c.args.number t.0 c.look_round.ensures.grew t.1)

pub returns-in_err-elements-clause-grew : goal.returns-in_err-elements-clause-grew
returns-in_err-elements-clause-grew g c = grew_trans c.args.seat.now.view c.look_round.new.seat.view c.elements_of_set.new.seat.view c.look_round.ensures.grew c.elements_of_set.ensures.grew

pub returns-clause-grew : goal.returns-clause-grew
returns-clause-grew g c = grew_trans c.args.seat.now.view c.look_round.new.seat.view c.elements_of_set.new.seat.view c.look_round.ensures.grew c.elements_of_set.ensures.grew

pub returns-clause-set : goal.returns-clause-set
returns-clause-set g c xs h =
    c.from_vec.ensures.same ∙ c.in_ok-elements.ensures.set xs (told_grew g.L.Law.right c.args.shared.now.shape c.args.seat.now.view c.look_round.new.seat.view c.args.number xs c.look_round.ensures.grew h)
