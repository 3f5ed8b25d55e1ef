-- The letters of documents, one document after the other.
use Rattle.std.proofs.Common.{◌≡◌, ℕ, suc, ◌+◌, Bool, true, false, cond, List, [], ◌∷◌, ◌++◌, length, append_assoc, append-nil, length-append, refl, sym, ap, ◌∙◌, subst, arith}
use Rattle.std.specs.Prelude.{Option}
use Rattle.px_post.specs.declared.letter.Letter.{Letter}
use Rattle.px_post.specs.Letters.{Document, letter, is_there, letters_of, letters_from, Letters}
use Rattle.px_post.specs.Mail.{AreNumbered}

numbered_both : (n : ℕ) (xs ys : List Letter) → AreNumbered n xs → AreNumbered (n + length xs) ys → AreNumbered n (xs ++ ys)
numbered_both n [] ys a b = subst (λ (m : ℕ). AreNumbered m ys) (let e : n + 0 ≡ n = omega arith in e) b
numbered_both n (x ∷ xs) ys a b = (a.0, numbered_both (n + 1) xs ys a.1 (subst (λ (m : ℕ). AreNumbered m ys) (let e : n + suc (length xs) ≡ n + 1 + length xs = omega arith in e) b))

one_numbered : (f b number before : ℕ) (route : ℕ → Option ℕ) (ids : List ℕ) → AreNumbered before (letters_of f b number before route ids)
one_numbered f b number before route [] = tt
one_numbered f b number before route (id ∷ ids) = by_test (is_there (route id) b) (one_numbered f b number (before + 1) route ids) (one_numbered f b number before route ids)
  where
    by_test : (t : Bool) → AreNumbered (before + 1) (letters_of f b number (before + 1) route ids) → AreNumbered before (letters_of f b number before route ids)
        → AreNumbered before (cond t (letter f (before + 1) number id ∷ letters_of f b number (before + 1) route ids) (letters_of f b number before route ids))
    by_test true there else_ = (refl, there)
    by_test false there else_ = else_

all_numbered : (f b number before : ℕ) (ds : List Document) → AreNumbered before (letters_from f b number before ds)
all_numbered f b number before [] = tt
all_numbered f b number before (d ∷ ds) =
    let ls = letters_of f b number before d.route d.ids in
    numbered_both before ls (letters_from f b (number + 1) (before + length ls) ds) (one_numbered f b number before d.route d.ids) (all_numbered f b (number + 1) (before + length ls) ds)

pub numbered : (f b : ℕ) (ds : List Document) → AreNumbered 0 (Letters f b ds)
numbered f b ds = all_numbered f b 1 0 ds

on_from : (f b number before : ℕ) (ds : List Document) (d : Document)
    → letters_from f b number before (ds ++ d ∷ []) ≡ letters_from f b number before ds ++ letters_of f b (number + length ds) (before + length (letters_from f b number before ds)) d.route d.ids
on_from f b number before [] d =
    append-nil (letters_of f b number before d.route d.ids) ∙ (λ i. letters_of f b (let e : number ≡ number + 0 = omega arith in e i) (let e : before ≡ before + 0 = omega arith in e i) d.route d.ids)
on_from f b number before (e ∷ ds) d =
    let ls = letters_of f b number before e.route e.ids in
    let more = letters_from f b (number + 1) (before + length ls) ds in
    let long = length-append ls more in
    let n : number + 1 + length ds ≡ number + suc (length ds) = omega arith in
    let s : before + length ls + length more ≡ before + length (ls ++ more) = omega arith in
    ap (λ (l : List Letter). ls ++ l) (on_from f b (number + 1) (before + length ls) ds d)
    ∙ sym (append_assoc ls more (letters_of f b (number + 1 + length ds) (before + length ls + length more) d.route d.ids))
    ∙ (λ i. (ls ++ more) ++ letters_of f b (n i) (s i) d.route d.ids)

pub a_document_more : (f b : ℕ) (ds : List Document) (d : Document) → Letters f b (ds ++ d ∷ []) ≡ Letters f b ds ++ letters_of f b (1 + length ds) (length (Letters f b ds)) d.route d.ids
a_document_more f b ds d = on_from f b 1 0 ds d ∙ (λ i. Letters f b ds ++ letters_of f b (1 + length ds) (let e : 0 + length (Letters f b ds) ≡ length (Letters f b ds) = omega arith in e i) d.route d.ids)
