-- There is at most one verdict.
use Rattle.std.proofs.Common.{◌≡◌, ℕ, zero, suc, ◌+◌, ◌<◌, ◌⊎◌, inl, inr, List, length, refl, ap, sym, ◌∙◌, subst, arith}
use Rattle.px_text.specs.Nodes.{Root}
use Rattle.px_reader.specs.declared.fault.DocKind.{DocKind}
use Rattle.px_reader.specs.declared.fault.DocKind.TheVariants.{NotHere, NotUtf8, LineLong, TooDeep, TooManyAttributes, TooBig, Truncated}
use Rattle.px_reader.specs.Spelling.{Spells}
use Rattle.px_reader.specs.Verdicts.{Verdict, IsFaulty, IsTree, Judges, Shows, rank, IsFine}
use Rattle.px_reader.proofs.Unique.{spells_one}

lt_or_eq_or_gt : (m n : ℕ) → (m < n) ⊎ ((m ≡ n) ⊎ (n < m))
lt_or_eq_or_gt m n = grind arith

-- a fault by the parts of its judgement
pub record Faulty (lines : List (List ℕ)) (line : ℕ) (kind : DocKind) : Type 0 where
  pub k : ℕ
  pub at : line ≡ k + 1
  pub inside : k < length lines
  pub before : (j : ℕ) → j < k → IsFine lines j
  pub shows : Shows lines k kind
  pub first : (other : DocKind) → rank other < rank kind → Shows lines k other → ⊥

abbrev pub Ends : List (List ℕ) → ℕ → Type 0
Ends lines line = ((k : ℕ) → k < length lines → IsFine lines k) × ((root : Root) → Spells lines root → ⊥) × (line ≡ length lines)

pub split : (lines : List (List ℕ)) (line : ℕ) (kind : DocKind) → Judges lines (IsFaulty line kind) → Faulty lines line kind ⊎ ((kind ≡ Truncated) × Ends lines line)
split lines line Truncated j = inr (refl, j)
split lines line NotHere (k, e, i, b, s, f) = inl (record { k = k; at = e; inside = i; before = b; shows = s; first = f })
split lines line NotUtf8 (k, e, i, b, s, f) = inl (record { k = k; at = e; inside = i; before = b; shows = s; first = f })
split lines line LineLong (k, e, i, b, s, f) = inl (record { k = k; at = e; inside = i; before = b; shows = s; first = f })
split lines line TooDeep (k, e, i, b, s, f) = inl (record { k = k; at = e; inside = i; before = b; shows = s; first = f })
split lines line TooManyAttributes (k, e, i, b, s, f) = inl (record { k = k; at = e; inside = i; before = b; shows = s; first = f })
split lines line TooBig (k, e, i, b, s, f) = inl (record { k = k; at = e; inside = i; before = b; shows = s; first = f })

abbrev by_rank : ℕ → DocKind
by_rank zero = TooBig
by_rank (suc zero) = LineLong
by_rank (suc (suc zero)) = NotUtf8
by_rank (suc (suc (suc zero))) = NotHere
by_rank (suc (suc (suc (suc zero)))) = TooDeep
by_rank (suc (suc (suc (suc (suc zero))))) = TooManyAttributes
by_rank _ = Truncated

by_rank-rank : (kind : DocKind) → by_rank (rank kind) ≡ kind
by_rank-rank TooBig = refl
by_rank-rank LineLong = refl
by_rank-rank NotUtf8 = refl
by_rank-rank NotHere = refl
by_rank-rank TooDeep = refl
by_rank-rank TooManyAttributes = refl
by_rank-rank Truncated = refl

same_kind : (a b : DocKind) → rank a ≡ rank b → a ≡ b
same_kind a b e = sym (by_rank-rank a) ∙ ap by_rank e ∙ by_rank-rank b

faulty_one : (lines : List (List ℕ)) (line line' : ℕ) (kind kind' : DocKind) → Faulty lines line kind → Faulty lines line' kind' → (line ≡ line') × (kind ≡ kind')
faulty_one lines line line' kind kind' f g = placed (lt_or_eq_or_gt f.k g.k)
  where
    ranked : Shows lines f.k kind' → (rank kind < rank kind') ⊎ ((rank kind ≡ rank kind') ⊎ (rank kind' < rank kind)) → f.k ≡ g.k → kind ≡ kind'
    ranked s (inl l) e = absurd (g.first kind l (subst (λ k. Shows lines k kind) e f.shows))
    ranked s (inr (inl q)) e = same_kind kind kind' q
    ranked s (inr (inr l)) e = absurd (f.first kind' l s)

    placed : (f.k < g.k) ⊎ ((f.k ≡ g.k) ⊎ (g.k < f.k)) → (line ≡ line') × (kind ≡ kind')
    placed (inl l) = absurd (g.before f.k l kind f.shows)
    placed (inr (inr l)) = absurd (f.before g.k l kind' g.shows)
    placed (inr (inl e)) =
        (f.at ∙ ap (λ k. k + 1) e ∙ sym g.at, ranked (subst (λ k. Shows lines k kind') (sym e) g.shows) (lt_or_eq_or_gt (rank kind) (rank kind')) e)

-- there is at most one verdict
pub judges_one : (lines : List (List ℕ)) (v w : Verdict) → Judges lines v → Judges lines w → v ≡ w
judges_one lines (IsTree root) (IsTree other) (f, s) (g, t) = ap IsTree (spells_one lines root other s t)
judges_one lines (IsTree root) (IsFaulty line kind) (f, s) j = absurd (no_fault (split lines line kind j))
  where
    no_fault : Faulty lines line kind ⊎ ((kind ≡ Truncated) × Ends lines line) → ⊥
    no_fault (inl g) = f g.k g.inside kind g.shows
    no_fault (inr e) = e.1.1 root s
judges_one lines (IsFaulty line kind) (IsTree root) j (f, s) = absurd (no_fault (split lines line kind j))
  where
    no_fault : Faulty lines line kind ⊎ ((kind ≡ Truncated) × Ends lines line) → ⊥
    no_fault (inl g) = f g.k g.inside kind g.shows
    no_fault (inr e) = e.1.1 root s
judges_one lines (IsFaulty line kind) (IsFaulty line' kind') j j' = both (split lines line kind j) (split lines line' kind' j')
  where
    both : Faulty lines line kind ⊎ ((kind ≡ Truncated) × Ends lines line) → Faulty lines line' kind' ⊎ ((kind' ≡ Truncated) × Ends lines line') → IsFaulty line kind ≡ IsFaulty line' kind'
    both (inl f) (inl g) = let e = faulty_one lines line line' kind kind' f g in λ i. IsFaulty (e.0 i) (e.1 i)
    both (inl f) (inr e) = absurd (e.1.0 f.k f.inside kind f.shows)
    both (inr e) (inl g) = absurd (e.1.0 g.k g.inside kind' g.shows)
    both (inr e) (inr d) = let l = e.1.2 ∙ sym d.1.2 in let q = e.0 ∙ sym d.0 in λ i. IsFaulty (l i) (q i)
