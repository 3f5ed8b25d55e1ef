use Rattle.px_xpath.proofs.OneFault.{faultless, faults_one, texts_one}
use Rattle.px_xpath.proofs.laws.a_text_is_one_filter_or_has_one_fault.Goals as goal

pub returns-clause-filter : goal.returns-clause-filter
returns-clause-filter c = texts_one

pub returns-clause-fault : goal.returns-clause-fault
returns-clause-fault c = faults_one

pub returns-clause-never_both : goal.returns-clause-never_both
returns-clause-never_both c = faultless
