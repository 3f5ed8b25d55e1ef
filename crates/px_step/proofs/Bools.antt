-- Tests that agree.
use Rattle.std.proofs.Common.{◌≡◌, Bool, true, false, ◌||◌, refl, sym, ◌∙◌, ap}

pub or_joined : {a b c d : Bool} → a ≡ c → b ≡ d → (a || b) ≡ (c || d)
or_joined {b = b} {c = c} e f = ap (λ z. z || b) e ∙ ap (λ z. c || z) f
