-- One taker more.
use Rattle.std.proofs.Common.{◌≡◌, ◌∙◌, ℕ, ◌+◌, ◌-◌, List, [], ◌∷◌, ◌++◌, ap, subst, sym, arith}
use Rattle.atomic_table.specs.Seated.{TableId}
use Rattle.px_jobs.specs.Jobs.{Giving, Taking, AreNew}

takers_more : {L : Type 0} (line : TableId) (ts : List (Taking L)) (t : Taking L) → AreNew line ts → t ≡ record { line = line; taken = [] } → AreNew line (ts ++ t ∷ [])
takers_more line [] t a is = (is, tt)
takers_more line (x ∷ xs) t a is = (a.0, takers_more line xs t a.1 is)

pub giver_less : {L : Type 0} (line : TableId) (g h : Giving L) (n : ℕ) → g ≡ record { line = line; parts = 66 - n; given = [] } → h ≡ record { line = line; parts = g.parts - 1; given = g.given }
    → h ≡ record { line = line; parts = 66 - (n + 1); given = [] }
giver_less line g h n e f =
    let p = ap (λ (x : Giving _). x.parts) e in
    let q : g.parts - 1 ≡ 66 - (n + 1) = omega arith in f ∙ (λ i. record { line = line; parts = q i; given = (e i).given })

pub takers_snoc : {L : Type 0} (line : TableId) (ts us : List (Taking L)) (t : Taking L) → us ≡ ts ++ t ∷ [] → AreNew line ts → t ≡ record { line = line; taken = [] } → AreNew line us
takers_snoc line ts us t e a is = subst (AreNew line) (sym e) (takers_more line ts t a is)

split : {L : Type 0} (line : TableId) (ts : List (Taking L)) (t : Taking L) → AreNew line (ts ++ t ∷ []) → AreNew line ts × (t.line ≡ line)
split line [] t a = (tt, ap (λ (x : Taking _). x.line) a.0)
split line (x ∷ xs) t a = let r = split line xs t a.1 in ((a.0, r.0), r.1)

-- the last taker, and those before it
pub takers_last : {L : Type 0} (line : TableId) (all ts : List (Taking L)) (t : Taking L) → all ≡ ts ++ t ∷ [] → AreNew line all → AreNew line ts × (t.line ≡ line)
takers_last line all ts t e a = split line ts t (subst (AreNew line) e a)
