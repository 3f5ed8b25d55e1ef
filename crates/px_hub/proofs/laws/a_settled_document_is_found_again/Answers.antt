use Rattle.px_hub.proofs.Again.{again, as_before}
use Rattle.px_hub.proofs.laws.a_settled_document_is_found_again.Goals as goal

pub returns-clause-again : goal.returns-clause-again
returns-clause-again c = again c.a_full_call_has_own_steps.ensures.held c.a_second_call_computes_nothing.ensures.second

pub returns-clause-between : goal.returns-clause-between
returns-clause-between c = as_before
