use Rattle.px_xpath.proofs.Machine.{begins_iff, accepted_writes, written_accepted}
use Rattle.px_xpath.proofs.laws.machine_is_right.Goals as goal

pub returns-clause-begins : goal.returns-clause-begins
returns-clause-begins c = begins_iff

pub returns-clause-writes : goal.returns-clause-writes
returns-clause-writes c = λ ts. ((λ (filter, w). written_accepted ts filter w), accepted_writes ts)
