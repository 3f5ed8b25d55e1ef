-- What is read and written in several steps.
use Rattle.std.proofs.Common.{◌≡◌, ℕ, List, ◌++◌, [], Option, Some, None, option_map, refl, ap, sym, ◌∙◌, append_assoc, append-nil}
use Rattle.px_io.specs.Flows.{TakesFrom, AddsTo}

-- nothing was added
pub adds_nothing : (held : Option (List ℕ)) → AddsTo held [] held
adds_nothing None = refl
adds_nothing (Some held) = ap Some (sym (append-nil held))

-- what is added in two steps
pub adds_both : (held middle after : Option (List ℕ)) (first second : List ℕ) →
    AddsTo held first middle → AddsTo middle second after → AddsTo held (first ++ second) after
adds_both None middle after first second p q = rw p at q
adds_both (Some held) middle after first second p q =
    let e : after ≡ Some ((held ++ first) ++ second) = q ∙ ap (option_map (λ bytes. bytes ++ second)) p in
    e ∙ ap Some (append_assoc held first second)

-- nothing was taken
pub takes_nothing : (left : Option (List ℕ)) → TakesFrom left [] left
takes_nothing None = refl
takes_nothing (Some left) = refl

-- what is taken in two steps
pub takes_both : (left middle after : Option (List ℕ)) (first second : List ℕ) →
    TakesFrom left first middle → TakesFrom middle second after → TakesFrom left (first ++ second) after
takes_both left middle None first second p q = p ∙ ap (option_map (λ rest. first ++ rest)) q
takes_both left middle (Some after) first second p q =
    p ∙ ap (option_map (λ rest. first ++ rest)) q ∙ ap Some (sym (append_assoc first second after))
