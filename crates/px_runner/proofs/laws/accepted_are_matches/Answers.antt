use Rattle.std.proofs.Common.{sym, ◌∙◌}
use Rattle.px_xpath.specs.Histories.{live}
use Rattle.px_afa.specs.Contents.{root_content}
use Rattle.px_afa.specs.Building.{program}
use Rattle.px_afa.specs.Machine.{machine_of}
use Rattle.px_runner.proofs.AcceptedIds.{accepted-all, accepted-matches}
use Rattle.px_runner.proofs.laws.accepted_are_matches.Goals as goal

pub returns-clause-live : goal.returns-clause-live
returns-clause-live c = accepted-matches

pub returns-clause-behind : goal.returns-clause-behind
returns-clause-behind c = λ history steps root. accepted-matches (live history) steps root

pub returns-clause-unpruned : goal.returns-clause-unpruned
returns-clause-unpruned c = λ history steps root.
    sym (accepted-all (machine_of (program history).states) (program history).firsts (root_content root)) ∙ accepted-matches (live history) steps root
