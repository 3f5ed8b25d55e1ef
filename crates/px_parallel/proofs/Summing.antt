-- The sums over lines, one line more.
use Rattle.std.proofs.Common.{◌≡◌, ℕ, ◌+◌, ◌<◌, ◌≤◌, List, [], ◌∷◌, ◌++◌, length, sum, take, get_or, ap, sym, ◌∙◌, subst, append-nil, append_assoc, length-append}
use Rattle.std.proofs.lemmas.List.{take_all, take_more}
use Rattle.std.proofs.lemmas.Grind.{flat_map-append}
use Rattle.std.proofs.lemmas.List.Sums.{sum_by-append}
use Rattle.px_feed.specs.declared.line.OutLine.{OutLine}
use Rattle.px_parallel.specs.declared.sums.Sums.{Sums}
use Rattle.px_parallel.specs.Sums.{AreSums, all_listed, ids_listed}

listed_behind : (before : List OutLine) (line : OutLine) → all_listed (before ++ line ∷ []) ≡ all_listed before ++ ids_listed line
listed_behind before line = flat_map-append ids_listed before (line ∷ []) ∙ ap (λ (ids : List ℕ). all_listed before ++ ids) (append-nil (ids_listed line))

pub sums_behind : (before : List OutLine) (line : OutLine) (old new : Sums) → new.matches ≡ old.matches + length (ids_listed line) →
    new.sum ≡ old.sum + sum (ids_listed line) → AreSums before old → AreSums (before ++ line ∷ []) new
sums_behind before line old new matches total are = record {
  matches = matches ∙ ap (λ n. n + length (ids_listed line)) are.matches ∙ sym (length-append (all_listed before) (ids_listed line))
      ∙ sym (ap length (listed_behind before line));
  sum_is = total ∙ ap (λ n. n + sum (ids_listed line)) are.sum_is ∙ sym (sum_by-append (λ n. n) (all_listed before) (ids_listed line))
      ∙ sym (ap sum (listed_behind before line));
}

-- the lines up to this one
pub taken_behind : (before lines : List OutLine) (i : ℕ) (line : OutLine) (sums : Sums) → i < length lines → line ≡ get_or lines i line →
    AreSums ((before ++ take i lines) ++ line ∷ []) sums → AreSums (before ++ take (i + 1) lines) sums
taken_behind before lines i line sums within is are =
    let more : before ++ take (i + 1) lines ≡ (before ++ take i lines) ++ line ∷ [] =
    ap (λ (front : List OutLine). before ++ front) (take_more lines i line within ∙ ap (λ (l : OutLine). take i lines ++ l ∷ []) (sym is))
    ∙ sym (append_assoc before (take i lines) (line ∷ [])) in
    let P : List OutLine → Type 0 = λ ls. AreSums ls sums in subst P (sym more) are

-- and all of them
pub all_taken : (before lines : List OutLine) (i : ℕ) (sums : Sums) → length lines ≤ i → AreSums (before ++ take i lines) sums → AreSums (before ++ lines) sums
all_taken before lines i sums beyond are =
    let P : List OutLine → Type 0 = λ ls. AreSums (before ++ ls) sums in subst P (take_all i lines beyond) are
