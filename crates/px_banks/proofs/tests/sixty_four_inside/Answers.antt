use Rattle.std.proofs.Common.{◌∙◌, List, ap, refl}
use lib.ListN.{get_elem?}
use Rattle.px_rule.specs.declared.view.Stand.{Stand}
use Rattle.px_rule.specs.declared.view.View.{View}
use Rattle.px_rule.specs.Banks.{stand}
use Rattle.px_banks.specs.declared.tests.Vote.{Vote}
use Rattle.px_banks.proofs.tests.sixty_four_inside.Goals as goal

pub claim-requires-clause-stand : goal.claim-requires-clause-stand
claim-requires-clause-stand g c = (stand 0 0 0, ap (λ (l : List Stand). get_elem? l 0) c.crowd.ensures.desk.2, refl, refl)

pub claim-requires-2-clause-stand : goal.claim-requires-2-clause-stand
claim-requires-2-clause-stand g c =
    (stand 0 0 0, ap (λ (v : View Vote). get_elem? v.stay.stands 0) c.in-Busy.ensures.answer.1 ∙ ap (λ (l : List Stand). get_elem? l 0) c.crowd.ensures.desk.2, refl, refl)
