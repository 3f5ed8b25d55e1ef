-- What is judged is what the contract sees.
use Rattle.std.proofs.Common.{sym, subst}
use Rattle.std.proofs.lemmas.Result.{on_ok_weaker}
use Rattle.px_reader.specs.Progress.{Progress}
use Rattle.px_reader.specs.Reading.{HasRead}
use Rattle.px_reader.proofs.reader.Reader.feed.Goals as goal

pub returns-clause-small : goal.returns-clause-small
returns-clause-small c =
    on_ok_weaker c.feed.result
    (λ small bytes given h. small bytes given (let P : Progress → Type 0 = λ progress. HasRead progress bytes given in subst P (sym c.self.view_is) h))
    c.feed.ensures.small

pub returns-clause-gives : goal.returns-clause-gives
returns-clause-gives c = λ bytes given h.
    c.feed.ensures.gives bytes given (let P : Progress → Type 0 = λ progress. HasRead progress bytes given in subst P (sym c.self.view_is) h)
