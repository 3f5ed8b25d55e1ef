use Rattle.std.proofs.Common.{rules, ◌≡◌, ◌∙◌, ap, refl}
use mathlib.Core.Option.{some}
use lib.ListN.{get_elem?}
use Rattle.px_rule.specs.declared.view.View.{View}
use Rattle.px_rule.specs.Banks.{stand}
use Rattle.px_banks.proofs.Clearing.{taken_at}
use Rattle.px_banks.specs.declared.tests.Vote.{Vote}
use Rattle.px_banks.proofs.tests.bank_words.Goals as goal

pub claim-requires-clause-stand : goal.claim-requires-clause-stand
claim-requires-clause-stand g c = (stand 0 0 0, search rules, refl, refl)

pub claim-requires-2-clause-stand : goal.claim-requires-2-clause-stand
claim-requires-2-clause-stand g c =
    let first : get_elem? c.change-3.new.desk.view.stay.stands 0 ≡ some (stand 0 0 0) = search rules in
    (stand 0 0 0, ap (λ (v : View Vote). get_elem? v.stay.stands 0) c.in-Busy.ensures.answer.1 ∙ first, refl, refl)

pub zero-requires-clause-built : goal.zero-requires-clause-built
zero-requires-clause-built g c =
    let first : get_elem? c.change-3.new.desk.view.stay.stands 0 ≡ some (stand 0 0 0) = search rules in
    let second = ap (λ (v : View Vote). get_elem? v.stay.stands 0) c.in-Busy.ensures.answer.1 ∙ first in
    (stand 3 1 0, taken_at 0 3 c.claim.new.desk.view c.claim-2.new.desk.view (stand 0 0 0) second c.in-Claimed.ensures.answer.3, refl, refl)
