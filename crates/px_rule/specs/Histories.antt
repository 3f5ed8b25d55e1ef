-- The first part of the rule: the history, and what each seat has seen of it.
use Rattle.std.specs.Prelude.{◌≡◌, ℕ, ◌<◌, ◌≤◌, cond, eqb, List, [], ◌∷◌, ◌++◌, length, Some, All}
use mathlib.Core.Option.{some}
use lib.ListN.{get_elem?}
use Rattle.px_rule.specs.declared.view.Past.{Past}
use Rattle.px_rule.specs.declared.view.Kind.TheVariants.{Desk, Pass, PassNote}

module _ {E : Type 0} where
  -- the second list goes on from the first
  abbrev pub Begins : List E → List E → Type 0
  Begins xs ys = (rest : List E) × (ys ≡ xs ++ rest)

-- `who` gives the pass that an entry names.
module _ {E : Type 0} (who : E → ℕ) where
  -- the entries that name p
  abbrev pub named : ℕ → List E → List E
  named p [] = []
  named p (e ∷ es) = cond (eqb (who e) p) (e ∷ named p es) (named p es)

  -- What holds of seat i and what it knows. `log` is the history, `desk` the seat of the desk, `seat` that of each pass, `mine` what each pass has asked for,
  -- and `holder` the seat that has the permit for an entry of it.
  pub record Fits (log : List E) (desk made : ℕ) (seat holder : ℕ → ℕ) (mine : ℕ → List E) (i : ℕ) (v : Past E) : Type 0 where
    pub seen : Begins v.seen log
    pub olds : All (λ o. Begins o log) v.olds
    pub last : v.last ≤ length log
    pub asker_last : v.asker_last ≤ length log
    pub is_desk : v.kind ≡ Desk → (i ≡ desk) × (v.seen ≡ log) × (v.made ≡ made)
    pub is_pass : (p : ℕ) → v.kind ≡ Pass p → (p < made) × (seat p ≡ i) × (v.mine ≡ mine p)
    pub is_note : (p : ℕ) → v.kind ≡ PassNote p → p < made
    pub permit : (e : E) → v.permit ≡ Some e → (who e < made) × (holder (who e) ≡ i) × (mine (who e) ≡ named (who e) log ++ e ∷ [])

module _ {E : Type 0} (who : E → ℕ) (legal : List E → Type 0) where
  -- `top` is the version word, and `views` is what each seat knows of the history.
  pub record Histories (log : List E) (desk made : ℕ) (seat holder : ℕ → ℕ) (mine : ℕ → List E) (top : ℕ) (views : List (Past E)) : Type 0 where
    pub word : top ≡ length log
    pub is_legal : legal log
    pub of_passes : All (λ e. who e < made) log
    pub asked : (p : ℕ) → Begins (named who p log) (mine p)
    pub fresh : (p : ℕ) → made ≤ p → mine p ≡ []
    pub present : (d : Past E) × (get_elem? views desk ≡ some d) × (d.kind ≡ Desk)
    pub each : (i : ℕ) (v : Past E) → get_elem? views i ≡ some v → Fits who log desk made seat holder mine i v
