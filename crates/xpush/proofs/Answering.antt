-- What is shown is the output for the filter's text.
use Rattle.std.proofs.Common.{ℕ, List, Result, Ok, Err, IfOk}
use Rattle.px_feed.specs.Matches.{OutShow}
use Rattle.px_xpath.specs.declared.fault.ParseFault.{ParseFault}
use Rattle.px_xpath.specs.declared.fault.ParseFault.TheVariants.{Filter, Memory}
use Rattle.px_xpath.specs.Faults.{IsText}
use Rattle.px_xpath.specs.Filters.{Way}
use Rattle.px_xpath.specs.Parses.{IsRefused}
use Rattle.xpush.specs.declared.showing.Answer.{Answer}
use Rattle.xpush.specs.Showing.{ShowsPrinted, ShowsRefusal}

-- a filter that was read is shown
pub shows_filter : {E : Type 0} (text : List ℕ) (way : Way) (result : Result Answer E) → IsText text way →
    IfOk result (λ answer. ShowsPrinted way answer.text answer.status) → IfOk result (λ answer. OutShow text answer.text answer.status)
shows_filter text way (Ok answer) parsed shows = (Ok way, parsed, shows)
shows_filter text way (Err e) parsed shows = shows

-- a filter that was refused is answered by the line of its fault
pub shows_refusal : {E : Type 0} (text : List ℕ) (fault : ParseFault) (result : Result Answer E) → IsRefused text fault →
    IfOk result (λ answer. ShowsRefusal fault answer.text answer.status) → IfOk result (λ answer. OutShow text answer.text answer.status)
shows_refusal text (Filter fault) (Ok answer) refused shows = (Err fault, refused, shows)
shows_refusal text Memory (Ok answer) refused shows = absurd shows
shows_refusal text fault (Err e) refused shows = shows
