-- A reader whose events are all kept.
use Rattle.std.proofs.Common.{◌≡◌, ℕ, ◌≤◌, List, [], ◌++◌, length, ap, sym, ◌∙◌, subst, append_assoc, append-nil}
use Rattle.std.proofs.lemmas.List.{nil_from_length}
use Rattle.px_text.specs.Nodes.{Root}
use Rattle.px_reader.specs.declared.event.Event.{Event}
use Rattle.px_reader.specs.Progress.{Progress}
use Rattle.px_reader.specs.Lines.{lines_of}
use Rattle.px_reader.specs.Reading.{HasRead, ReadsPart, GivesOn, EndsTree}
use Rattle.px_reader.specs.Spelling.{events_of}
use Rattle.px_reader.specs.Verdicts.{Verdict, HasVerdict, IsTree, IsFaulty, SpellsTree, AreTreeEvents, AreEvents}
use Rattle.std.proofs.Math.Logic.{∥∥₁_elim}
use Rattle.px_reader.proofs.Decided.{has_verdict}
use Rattle.px_reader.proofs.Feeding.{HasBegun}
use Rattle.px_reader.proofs.Verdicts.{judges_one}

-- The reader has read the bytes up to the rest, and these are the events that it gave.
pub record HasTold (reader : Progress) (bytes rest : List ℕ) (told : List Event) : Type 0 where
  pub done : List ℕ
  pub bytes_are : bytes ≡ done ++ rest
  pub read : HasRead reader done told

pub told_begun : (reader : Progress) (bytes rest : List ℕ) (told : List Event) → HasTold reader bytes rest told → HasBegun reader bytes rest
told_begun reader bytes rest told h = record { done = h.done; given = told; bytes_are = h.bytes_are; read = h.read }

-- the next part is read, and its events come behind the others
pub told_more : (old reader : Progress) (bytes rest piece left : List ℕ) (told before behind : List Event) → HasTold old bytes rest told → rest ≡ piece ++ left →
    ReadsPart old reader piece before behind → before ≡ [] → HasTold reader bytes left (told ++ behind)
told_more old reader bytes rest piece left told before behind h e reads none =
    let (more, f, k) = reads h.done told h.read in
    let same : behind ≡ more = f ∙ ap (λ evs. evs ++ more) none in
    record {
      done = h.done ++ piece;
      bytes_are = h.bytes_are ∙ ap (λ bs. h.done ++ bs) e ∙ sym (append_assoc h.done piece left);
      read = subst (λ evs. HasRead reader (h.done ++ piece) (told ++ evs)) (sym same) k;
    }

-- nothing is left
pub told_all : (reader : Progress) (bytes rest : List ℕ) (told : List Event) → HasTold reader bytes rest told → length rest ≡ 0 → HasRead reader bytes told
told_all reader bytes rest told h none =
    let same : bytes ≡ h.done = h.bytes_are ∙ ap (λ bs. h.done ++ bs) (nil_from_length rest none) ∙ append-nil h.done in
    subst (λ bs. HasRead reader bs told) (sym same) h.read

-- the tree is one
pub tree_one : (bytes : List ℕ) (root other : Root) → HasVerdict bytes (IsTree root) → HasVerdict bytes (IsTree other) → root ≡ other
tree_one bytes root other v w = let same : IsTree root ≡ IsTree other = judges_one (lines_of bytes) (IsTree root) (IsTree other) v w in cc

-- the events of its tree
pub told_tree : (bytes : List ℕ) (told before behind : List Event) → EndsTree bytes told before behind → before ≡ [] → AreTreeEvents bytes (told ++ behind)
told_tree bytes told before behind (root, more, e, events, v) none other w =
    let same : behind ≡ more = e ∙ ap (λ evs. evs ++ more) none in
    ap (λ evs. told ++ evs) same ∙ sym events ∙ ap events_of (tree_one bytes root other v w)

-- and they are not too many
pub told_few : (told before behind : List Event) → GivesOn told before behind → before ≡ [] → length (told ++ behind) ≤ 16_777_216
told_few told before behind (more, e, begins, few) none =
    let same : behind ≡ more = e ∙ ap (λ evs. evs ++ more) none in
    subst (λ (evs : List Event). length (told ++ evs) ≤ 16_777_216) (sym same) few

-- the tree that bytes spell which are known to spell one
pub spelt_tree : (bytes : List ℕ) → SpellsTree bytes → (root : Root) × HasVerdict bytes (IsTree root)
spelt_tree bytes spelt = found (has_verdict bytes)
  where
    found : (verdict : Verdict) × HasVerdict bytes verdict → (root : Root) × HasVerdict bytes (IsTree root)
    found (IsTree root, v) = (root, v)
    found (IsFaulty line kind, v) = absurd (∥∥₁_elim spelt (λ x y. absurd x) (λ t. let same : IsTree t.0 ≡ IsFaulty line kind = judges_one (lines_of bytes) (IsTree t.0) (IsFaulty line kind) t.1 v in cc))

pub told_events : (bytes : List ℕ) (told : List Event) → SpellsTree bytes → AreTreeEvents bytes told → AreEvents bytes told
told_events bytes told spelt are = let (root, v) = spelt_tree bytes spelt in record { root = root; verdict = v; events_are = are root v }
