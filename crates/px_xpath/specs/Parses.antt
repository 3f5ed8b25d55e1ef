-- What `parse` answers for a text.
use Rattle.std.specs.Prelude.{ℕ, List, [], ◌∷◌}
use Rattle.px_xpath.specs.declared.fault.ParseFault.{ParseFault}
use Rattle.px_xpath.specs.declared.fault.ParseFault.TheVariants.{Filter, Memory}
use Rattle.px_xpath.specs.declared.fault.FilterFault.TheVariants as fault
use Rattle.px_xpath.specs.declared.descent.Reason.{Reason}
use Rattle.px_xpath.specs.declared.descent.Reason.TheVariants as reason
use Rattle.px_xpath.specs.declared.descent.Stop.{Stop}
use Rattle.px_xpath.specs.declared.descent.Stop.TheVariants as stop
use Rattle.px_xpath.specs.Tokens.{Placed}
use Rattle.px_xpath.specs.Faults.{HasFault}
use Rattle.px_xpath.specs.Reads.{rest_of}

-- the text is refused for this fault of it, or for want of memory
abbrev pub IsRefused : List ℕ → ParseFault → Type 0
IsRefused text (Filter found) = HasFault text found
IsRefused text Memory = Unit {0}

-- the place of the first token, or of the text's end where there is none
abbrev pub place_of : (end : ℕ) → List Placed → ℕ
place_of end [] = end
place_of end (p ∷ ts) = p.at

-- the fault of a text with this end where the first of these tokens stops the parse
abbrev pub refusal_of : (end : ℕ) → Reason → List Placed → ParseFault
refusal_of end reason.NotAFilter rest = Filter (fault.NotAFilter (place_of end rest))
refusal_of end reason.TooNested rest = Filter (fault.TooNested (place_of end rest))
refusal_of end reason.NumberLong rest = Filter (fault.NumberLong (place_of end rest))

abbrev pub fault_of : (end : ℕ) → Stop → ParseFault
fault_of end stop.Memory = Memory
fault_of end (stop.At why rest) = refusal_of end why (rest_of rest)
