-- Every list of lines is judged, and in one way.
use Rattle.px_reader.specs.Lines.{lines_of}
use Rattle.px_reader.proofs.Decided.{has_verdict}
use Rattle.px_reader.proofs.Verdicts.{judges_one}
use Rattle.px_reader.proofs.laws.verdicts_are_one.Goals as goal

pub returns-clause-some : goal.returns-clause-some
returns-clause-some c = has_verdict

pub returns-clause-one : goal.returns-clause-one
returns-clause-one c = λ bytes verdict other. judges_one (lines_of bytes) verdict other
