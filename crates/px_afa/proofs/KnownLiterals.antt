-- How a table of literals grows.
use Rattle.std.proofs.Common.{◌≡◌, ℕ, suc, ◌+◌, ◌<◌, ◌≤◌, Bool, true, false, ◌||◌, cond, List, [], ◌∷◌, ◌++◌, length, take, Option, Some, None, refl, sym, ◌∙◌, ap, subst, arith}
use Rattle.std.specs.Prelude.{unwrap_or, bytes_eq}
use Rattle.std.specs.List.{list_any}
use Rattle.std.proofs.lemmas.List.{length-take-le}
use Rattle.std.proofs.lemmas.Slice.Eq.{bytes_eq-Decides}
use Rattle.px_afa.specs.declared.state.State.{State}
use Rattle.px_afa.specs.declared.literals.Literals.{Literals}
use Rattle.px_afa.specs.Building.{newest}
use Rattle.px_afa.specs.Classes.{class_of_text, with_literal, literals_of}
use Rattle.px_afa.specs.Dictionaries.{found}
use Rattle.px_afa.specs.Kept.{AreLiterals}
use Rattle.px_afa.proofs.KnownNames.{turned}
use Rattle.px_afa.proofs.StatesByNumber.{newest-length}
use Rattle.px_afa.proofs.Sizes.{literals-few}

abbrev has_text : List (List ℕ) → List ℕ → Bool
has_text literals text = list_any (λ literal. bytes_eq literal text) literals

abbrev known_from : ℕ → List (List ℕ) → List ℕ → Option ℕ
known_from i literals text = cond (has_text literals text) (Some (class_of_text i literals text)) None

class_more : (i : ℕ) (literals : List (List ℕ)) (k x : List ℕ) → has_text literals k ≡ false →
    known_from i (literals ++ k ∷ []) x ≡ cond (bytes_eq k x) (Some (i + length literals)) (known_from i literals x)
class_more i [] k x h = go (bytes_eq k x)
  where
    go : (b : Bool) → cond (b || false) (Some (cond b i 0)) None ≡ cond b (Some (i + 0)) None
    go true = let e : i ≡ i + 0 = omega arith in ap Some e
    go false = refl
class_more i (y ∷ literals) k x h = start (bytes_eq y k) refl h (class_more (suc i) literals k x)
  where
    go : (c : Bool) → bytes_eq y x ≡ c → bytes_eq y k ≡ false → known_from (suc i) (literals ++ k ∷ []) x ≡ cond (bytes_eq k x) (Some (suc i + length literals)) (known_from (suc i) literals x) →
        cond (c || has_text (literals ++ k ∷ []) x) (Some (cond c i (class_of_text (suc i) (literals ++ k ∷ []) x))) None
        ≡ cond (bytes_eq k x) (Some (i + length (y ∷ literals))) (cond (c || has_text literals x) (Some (cond c i (class_of_text (suc i) literals x))) None)
    go true e apart ih = by (bytes_eq k x) refl
      where
        by : (d : Bool) → bytes_eq k x ≡ d → Some i ≡ cond d (Some (i + length (y ∷ literals))) (Some i)
        by false f = refl
        by true f =
            let both : bytes_eq y k ≡ true = (bytes_eq-Decides y k).1 ((bytes_eq-Decides y x).0 e ∙ sym ((bytes_eq-Decides k x).0 f)) in
            cc
    go false e apart ih = let n : suc i + length literals ≡ i + suc (length literals) = omega arith in ih ∙ ap (λ m. cond (bytes_eq k x) (Some m) (known_from (suc i) literals x)) n

    start : (b : Bool) → bytes_eq y k ≡ b → (b || has_text literals k) ≡ false →
        (has_text literals k ≡ false → known_from (suc i) (literals ++ k ∷ []) x ≡ cond (bytes_eq k x) (Some (suc i + length literals)) (known_from (suc i) literals x)) →
        known_from i ((y ∷ literals) ++ k ∷ []) x ≡ cond (bytes_eq k x) (Some (i + length (y ∷ literals))) (known_from i (y ∷ literals) x)
    start true e h' ih = cc
    start false e h' ih = go (bytes_eq y x) refl e (ih h')

class_not : (i : ℕ) (literals : List (List ℕ)) (x : List ℕ) → has_text literals x ≡ false → class_of_text i literals x ≡ 0
class_not i [] x h = refl
class_not i (y ∷ literals) x h = go (bytes_eq y x) h (class_not (suc i) literals x)
  where
    go : (b : Bool) → (b || has_text literals x) ≡ false → (has_text literals x ≡ false → class_of_text (suc i) literals x ≡ 0) → cond b i (class_of_text (suc i) literals x) ≡ 0
    go true h' ih = cc
    go false h' ih = ih h'

pub literal_class : (table : Literals) (literals : List (List ℕ)) (text : List ℕ) → AreLiterals table literals → unwrap_or (found table.classes text) 0 ≡ class_of_text 1 literals text
literal_class table literals text are = ap (λ o. unwrap_or o 0) (are.classes text) ∙ go (has_text literals text) refl
  where
    go : (b : Bool) → has_text literals text ≡ b → unwrap_or (cond b (Some (class_of_text 1 literals text)) None) 0 ≡ class_of_text 1 literals text
    go true e = refl
    go false e = sym (class_not 1 literals text e)

-- a literal that is put at the end
pub literal_new : (old new : Literals) (literals : List (List ℕ)) (text : List ℕ) (class : ℕ) → AreLiterals old literals → found old.classes text ≡ None → class ≡ old.count + 1 →
    ((other : List ℕ) → found new.classes other ≡ cond (bytes_eq other text) (Some class) (found old.classes other)) → new.count ≡ class → AreLiterals new (with_literal (Some text) literals)
literal_new old new literals text class are e at put count =
    let c = none_has (has_text literals text) (sym (are.classes text) ∙ e) in
    subst (AreLiterals new) (sym (ap (λ b. cond b literals (literals ++ text ∷ [])) c))
    (record {
      classes = λ other. put other ∙ (ap (λ b. cond b (Some class) (found old.classes other)) (turned other text)
          ∙ (ap (λ n. cond (bytes_eq text other) (Some n) (found old.classes other)) class_is
          ∙ (ap (cond (bytes_eq text other) (Some (1 + length literals))) (are.classes other) ∙ sym (class_more 1 literals text other c))));
      count = let now = are.count in let long = end_length literals in omega arith;
    })
  where
    class_is : class ≡ 1 + length literals
    class_is = let now = are.count in omega arith

    none_has : (b : Bool) → cond b (Some (class_of_text 1 literals text)) None ≡ None → b ≡ false
    none_has true h = cc
    none_has false h = refl

    end_length : (ls : List (List ℕ)) → length (ls ++ text ∷ []) ≡ length ls + 1
    end_length [] = refl
    end_length (l ∷ ls) = let ih = end_length ls in omega arith

pub literals_room : (table : Literals) (states : List State) (n most : ℕ) → AreLiterals table (literals_of (newest (take n states))) → n < length states → length states ≤ most → table.count < most
literals_room table states n most are less le =
    let long = are.count in
    let few = literals-few (newest (take n states)) in
    let turned = newest-length (take n states) in
    let front = length-take-le n states in
    omega arith
