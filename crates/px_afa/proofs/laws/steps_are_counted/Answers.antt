use Rattle.px_afa.specs.Building.{program}
use Rattle.px_afa.proofs.Counted.{steps-counted}
use Rattle.px_afa.proofs.laws.steps_are_counted.Goals as goal

pub returns : goal.returns
returns c = record { count = λ history root. steps-counted (program history) root }
