-- What is judged is what the contract sees.
use Rattle.std.proofs.Common.{sym, subst}
use Rattle.px_reader.specs.Progress.{Progress}
use Rattle.px_reader.specs.Reading.{HasRead}
use Rattle.px_reader.proofs.reader.Reader.is_behind_root.Goals as goal

pub returns-clause-closed : goal.returns-clause-closed
returns-clause-closed c = λ is bytes given h.
    c.is_behind_root.ensures.closed is bytes given (let P : Progress → Type 0 = λ progress. HasRead progress bytes given in subst P (sym c.self.view_is) h)

pub returns-clause-open : goal.returns-clause-open
returns-clause-open c = λ is bytes given h.
    c.is_behind_root.ensures.open is bytes given (let P : Progress → Type 0 = λ progress. HasRead progress bytes given in subst P (sym c.self.view_is) h)
