-- Events and pieces, one behind the other.
use Rattle.std.proofs.Common.{◌≡◌, ℕ, ◌+◌, ◌<◌, ◌^◌, List, [], ◌∷◌, ◌++◌, length, take, get_or, ap, sym, ◌∙◌, append_assoc, append-nil, arith}
use Rattle.std.proofs.lemmas.List.{length-append, take_more}
use Rattle.std.proofs.lemmas.Grind.{flat_map-append}
use Rattle.px_reader.specs.declared.event.Event.{Event}
use Rattle.px_hub.proofs.Opening.{take_few}
use Rattle.px_session.specs.Sessions.{joined}

-- one event more
pub take_one : (given events : List Event) (at : ℕ) (e other : Event) → at < length events → get_or events at e ≡ other → (given ++ take at events) ++ other ∷ [] ≡ given ++ take (at + 1) events
take_one given events at e other below is =
    append_assoc given (take at events) (other ∷ []) ∙ ap (λ (l : List Event). given ++ l) (ap (λ (x : Event). take at events ++ x ∷ []) (sym is) ∙ sym (take_more events at e below))

-- before the last event there is room for it
pub one_less : (given events : List Event) (at : ℕ) → at < length events → length (given ++ events) < 2 ^ 60 → length (given ++ take at events) + 1 < 2 ^ 60
one_less given events at below few =
    let all = length-append given events in
    let front = length-append given (take at events) in
    let taken = take_few at events in
    omega arith

-- one piece more
pub joined_more : (front : List (List ℕ)) (piece : List ℕ) → joined (front ++ piece ∷ []) ≡ joined front ++ piece
joined_more front piece = flat_map-append (λ (p : List ℕ). p) front (piece ∷ []) ∙ ap (λ (l : List ℕ). joined front ++ l) (append-nil piece)

pub joined_one : (pieces : List (List ℕ)) (at : ℕ) (piece slice : List ℕ) → at < length pieces → piece ≡ get_or pieces at piece → slice ≡ piece → joined (take at pieces) ++ slice ≡ joined (take (at + 1) pieces)
joined_one pieces at piece slice below is same =
    ap (λ (l : List ℕ). joined (take at pieces) ++ l) same ∙ sym (joined_more (take at pieces) piece)
    ∙ ap joined (ap (λ (x : List ℕ). take at pieces ++ x ∷ []) is ∙ sym (take_more pieces at piece below))
