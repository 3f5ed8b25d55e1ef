-- An input opens in one way.
use Rattle.std.proofs.Common.{◌≡◌, ◌≤◌, ◌<◌, ◌⊎◌, ◌+◌, ℕ, arith, false, List, [], ◌∷◌, ◌++◌, append_assoc, append-nil, length, length-append, refl, ap, ap₂, ◌∙◌, sym, subst, inl, inr}
use Rattle.std.specs.List.{list_any}
use Rattle.px_explain.specs.declared.node.ProofNode.{ProofNode}
use Rattle.px_explain.specs.Bounds.{has_above, AreSmall}
use Rattle.px_explain.specs.Openings.{AreLines, IsAtFault, Opening, Opens, ProofThen, NoProofAt, TooManyLines, end_line}
use Rattle.px_explain.specs.Texts.{words, line, text_of, BeginsWithLine}
use Rattle.px_explain.proofs.Incoming.{no_feed_of}
use Rattle.px_explain.proofs.Numerals.{no_words}
use Rattle.px_explain.proofs.ReadBack.{joined, same_line}
use Rattle.std.proofs.lemmas.Bool.{or_parts}

-- The lines go on with some more, to which the bytes behind them belong.
abbrev GoesOn : (front all : List ProofNode) (rest behind : List ℕ) → Type 0
GoesOn front all rest behind = (more : List ProofNode) × (all ≡ front ++ more) × (rest ≡ text_of more ++ behind)

-- of two fronts of lines of the same bytes one goes on with the other
fork : (front other : List ProofNode) (rest behind : List ℕ) → AreSmall front → AreSmall other → text_of front ++ rest ≡ text_of other ++ behind →
    GoesOn front other rest behind ⊎ GoesOn other front behind rest
fork [] other rest behind f o e = inl (other, refl, e)
fork (x ∷ front) [] rest behind f o e = inr (x ∷ front, refl, sym e)
fork (x ∷ front) (y ∷ other) rest behind f o e =
    let p = or_parts (has_above 4_294_967_295 x) (list_any (has_above 4_294_967_295) front) f in
    let q = or_parts (has_above 4_294_967_295 y) (list_any (has_above 4_294_967_295) other) o in
    let same = same_line x y (text_of front ++ rest) (text_of other ++ behind) p.0 q.0 (sym (append_assoc (line x) (text_of front) rest) ∙ e ∙ append_assoc (line y) (text_of other) behind) in
    elim (fork front other rest behind p.1 q.1 same.1) [
      | inl g ↦ inl (g.0, joined x y front other g.0 same.0 g.1, g.2)
      | inr g ↦ inr (g.0, joined y x other front g.0 (sym same.0) g.1, g.2)
    ]

-- behind these lines stands no further line of a proof, or there are as many as there may be
abbrev Ends : (front : List ProofNode) (rest : List ℕ) → Type 0
Ends front rest = (BeginsWithLine rest → ⊥) ⊎ (length front ≡ 100_000)

-- lines that end do not go on
no_more : (front all more : List ProofNode) (rest behind : List ℕ) → AreSmall all → length all ≤ 100_000 → Ends front rest → all ≡ front ++ more → rest ≡ text_of more ++ behind →
    (front ≡ all) × (rest ≡ behind)
no_more front all [] rest behind s few ends e f = (sym (e ∙ append-nil front), f)
no_more front all (t ∷ more) rest behind s few (inl none) e f =
    absurd (none (t, text_of more ++ behind, small_at front t more (subst AreSmall e s), f ∙ append_assoc (line t) (text_of more) behind))
  where
    small_at : (front : List ProofNode) (t : ProofNode) (more : List ProofNode) → AreSmall (front ++ t ∷ more) → has_above 4_294_967_295 t ≡ false
    small_at [] t more s = (or_parts (has_above 4_294_967_295 t) (list_any (has_above 4_294_967_295) more) s).0
    small_at (x ∷ front) t more s = small_at front t more (or_parts (has_above 4_294_967_295 x) (list_any (has_above 4_294_967_295) (front ++ t ∷ more)) s).1
no_more front all (t ∷ more) rest behind s few (inr full) e f = absurd (beyond front all t more few full e)
  where
    beyond : (front all : List ProofNode) (t : ProofNode) (more : List ProofNode) → length all ≤ 100_000 → length front ≡ 100_000 → all ≡ front ++ t ∷ more → ⊥
    beyond front all t more few full e = omega (arith, few, full, ap length e, length-append front (t ∷ more))

-- two fronts of the same bytes that both end are one
same_end : (front other : List ProofNode) (rest behind bytes : List ℕ) → AreLines front rest bytes → AreLines other behind bytes → Ends front rest → Ends other behind →
    (front ≡ other) × (rest ≡ behind)
same_end front other rest behind bytes a b p q =
    elim (fork front other rest behind a.small b.small (sym a.bytes_are ∙ b.bytes_are)) [
      | inl g ↦ no_more front other g.0 rest behind b.small b.few p g.1 g.2
      | inr g ↦ let same = no_more other front g.0 behind rest a.small a.few q g.1 g.2 in (sym same.0, sym same.1)
    ]

-- the line `=` is none of a proof
no_end_line : (document : List ℕ) → BeginsWithLine (end_line ++ document) → ⊥
no_end_line document = no_words (end_line ++ document) (61 ∷ []) document refl (no_feed_of (61 ∷ []) refl) refl

no_line_left : (rest : List ℕ) → rest ≡ [] → BeginsWithLine rest → ⊥
no_line_left rest e b = too_long (words b.0) b.1 (sym e ∙ b.3)
  where
    too_long : (w m : List ℕ) → [] ≡ (w ++ 10 ∷ []) ++ m → ⊥
    too_long w m e = omega (arith, simp length-append at (ap length e))

-- why no further line stands behind those before a fault
ends_of : (front : List ProofNode) (rest : List ℕ) → IsAtFault (length front) rest ⊎ (rest ≡ []) → Ends front rest
ends_of front rest (inl fault) = inl fault.1
ends_of front rest (inr none) = inl (no_line_left rest none)

proof_not_fault : (bytes : List ℕ) (nodes : List ProofNode) (document : List ℕ) (at : ℕ) → Opens bytes (ProofThen nodes document) → Opens bytes (NoProofAt at) → ⊥
proof_not_fault bytes nodes document at o (front, rest, a, e, fault) =
    apart fault (same_end nodes front (end_line ++ document) rest bytes o a (inl (no_end_line document)) (ends_of front rest fault)).1
  where
    apart : IsAtFault (length front) rest ⊎ (rest ≡ []) → end_line ++ document ≡ rest → ⊥
    apart (inl fault) same = fault.2 (document, sym same)
    apart (inr none) same = let never : end_line ++ document ≡ [] = same ∙ none in absurd (cc)

proof_not_many : (bytes : List ℕ) (nodes : List ProofNode) (document : List ℕ) → Opens bytes (ProofThen nodes document) → Opens bytes TooManyLines → ⊥
proof_not_many bytes nodes document o (front, rest, a, full, some, none) =
    none (document, sym (same_end nodes front (end_line ++ document) rest bytes o a (inl (no_end_line document)) (inr full)).1)

fault_not_many : (bytes : List ℕ) (at : ℕ) → Opens bytes (NoProofAt at) → Opens bytes TooManyLines → ⊥
fault_not_many bytes at (front, rest, a, e, fault) (all, behind, b, full, some, none) =
    apart fault (same_end front all rest behind bytes a b (ends_of front rest fault) (inr full))
  where
    apart : IsAtFault (length front) rest ⊎ (rest ≡ []) → (front ≡ all) × (rest ≡ behind) → ⊥
    apart (inl fault) same = few (length front) (length all) fault.0 full (ap length same.0)
      where
        few : (n m : ℕ) → n < 100_000 → m ≡ 100_000 → n ≡ m → ⊥
        few n m l e f = omega arith
    apart (inr empty) same = some (sym same.1 ∙ empty)

-- an input opens in one way
pub opens_once : (bytes : List ℕ) (opening other : Opening) → Opens bytes opening → Opens bytes other → opening ≡ other
opens_once bytes (ProofThen nodes document) (ProofThen others further) o p =
    let same = same_end nodes others (end_line ++ document) (end_line ++ further) bytes o p (inl (no_end_line document)) (inl (no_end_line further)) in
    ap₂ (λ front rest. ProofThen front rest) same.0 (behind document further same.1)
  where
    behind : (d e : List ℕ) → end_line ++ d ≡ end_line ++ e → d ≡ e
    behind d e h = cc
opens_once bytes (NoProofAt at) (NoProofAt other) (front, rest, a, e, fault) (others, behind, b, f, further) =
    let same = same_end front others rest behind bytes a b (ends_of front rest fault) (ends_of others behind further) in
    ap (λ n. NoProofAt n) (e ∙ ap (λ (lines : List ProofNode). length lines + 1) same.0 ∙ sym f)
opens_once bytes TooManyLines TooManyLines o p = refl
opens_once bytes (ProofThen nodes document) (NoProofAt at) o p = absurd (proof_not_fault bytes nodes document at o p)
opens_once bytes (NoProofAt at) (ProofThen nodes document) o p = absurd (proof_not_fault bytes nodes document at p o)
opens_once bytes (ProofThen nodes document) TooManyLines o p = absurd (proof_not_many bytes nodes document o p)
opens_once bytes TooManyLines (ProofThen nodes document) o p = absurd (proof_not_many bytes nodes document p o)
opens_once bytes (NoProofAt at) TooManyLines o p = absurd (fault_not_many bytes at o p)
opens_once bytes TooManyLines (NoProofAt at) o p = absurd (fault_not_many bytes at p o)
