-- Lists of parts that are put together one by one.
use Rattle.std.proofs.Common.{◌≡◌, ℕ, ◌<◌, ◌≤◌, ◌+◌, ◌-◌, List, [], ◌∷◌, ◌++◌, length, get_or, take, drop, ◌∙◌, ap, arith, append_assoc}
use Rattle.std.proofs.lemmas.List.{take_all}
use Rattle.px_xpath.specs.declared.filter.Cond.{Cond}
use Rattle.px_xpath.specs.declared.filter.Step.{Step}
use Rattle.px_xpath.specs.Histories.{conditions_size, count_of, joint, parts_behind, way_size}
use Rattle.px_xpath.specs.Views.{conditions, ways}
use Rattle.px_afa.specs.Building.{MadeParts, joined}

pub parts_joined : (before after : List ℕ) (more : MadeParts) → joined (before ++ after) more ≡ joined before (joined after more)
parts_joined before after more = ap (λ parts. record { states = more.states; parts = parts }) (append_assoc before after more.parts)

-- a path makes no more states than its size
pub way_few : (steps onward : List Step) (step : Step) (conds : List Cond) (end first second third fourth last parts : ℕ) →
    0 < length steps → step ≡ get_or steps 0 step → onward ≡ take (length steps - 1) (drop 1 steps) → conds ≡ step.conds →
    second ≤ first + conditions_size (conditions conds) → third ≤ second + way_size (ways onward) end →
    parts ≡ count_of (conditions conds) + parts_behind (ways onward) end → fourth ≤ third + joint parts → last ≤ fourth + 1 →
    last ≤ first + way_size (ways steps) end
way_few [] onward step conds end first second third fourth last parts some at past its a b k c d = absurd (omega arith)
way_few (s ∷ rest) onward step conds end first second third fourth last parts some at past its a b k c d =
    let its' : conds ≡ s.conds = its ∙ ap (λ z. z.conds) at in
    let a' : second ≤ first + conditions_size (conditions s.conds) = rw (← its') a in
    let past' : onward ≡ rest = past ∙ take_all (length (s ∷ rest) - 1) rest (omega arith) in
    let b' : third ≤ second + way_size (ways rest) end = rw (← past') b in
    let k' : parts ≡ count_of (conditions s.conds) + parts_behind (ways rest) end = rw (← its', ← past') k in
    let c' : fourth ≤ third + joint (count_of (conditions s.conds) + parts_behind (ways rest) end) = rw (← k') c in
    omega arith
