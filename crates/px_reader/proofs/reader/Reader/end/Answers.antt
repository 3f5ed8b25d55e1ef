-- What is judged is what the contract sees.
use Rattle.std.proofs.Common.{sym, subst}
use Rattle.px_reader.specs.Progress.{Progress}
use Rattle.px_reader.specs.Reading.{HasRead}
use Rattle.px_reader.proofs.reader.Reader.end.Goals as goal

pub returns-clause-gives : goal.returns-clause-gives
returns-clause-gives c = λ bytes given h.
    c.end.ensures.gives bytes given (let P : Progress → Type 0 = λ progress. HasRead progress bytes given in subst P (sym c.self.view_is) h)
