-- Texts and numbers that are tied in their order are the same.
use Rattle.std.proofs.Common.{◌≡◌, ℕ, ℤ, true, List, refl, sym, ap}
use Rattle.std.specs.Prelude.{◌<ℤ◌}
use Rattle.std.specs.declared.cmp.Ordering.{Ordering}
use Rattle.std.specs.declared.cmp.Ordering.TheVariants.{Less, Equal, Greater}
use Rattle.std.proofs.lemmas.Cmp.{int_ranked, tied_itself, int_cmp_total}
use Rattle.std.specs.Cmp.Lexicographic.{slice_cmp, texts_ties, bytes_decides}
use Rattle.std.specs.Ordering.{MatchOrdering, is_eq, nat_cmp, int_cmp}
use Rattle.std.specs.Bool.{Decides}
use Rattle.std.proofs.lemmas.Bool.Decides.{Decides-at, Decides-like}
use Rattle.px_xpath.specs.declared.filter.Test.TheVariants.{Element, Attribute}
use Rattle.px_xpath.specs.declared.filter.Value.TheVariants.{Number, Literal}

texts_tied : (a b : List ℕ) → Decides (is_eq (slice_cmp nat_cmp a b)) (a ≡ b)
texts_tied a b = Decides-at _ _ (sym (texts_ties a b)) (bytes_decides a b)

numbers_tied : (a b : ℤ) → Decides (is_eq (int_cmp a b)) (a ≡ b)
numbers_tied a b = (told (int_cmp a b) (int_ranked a b (int_cmp a b) refl), λ e. rw (← e, tied_itself int_cmp_total a) refl)
  where
    told : (o : Ordering) → MatchOrdering o (a <ℤ b) (a ≡ b) (b <ℤ a) → is_eq o ≡ true → a ≡ b
    told Less r e = absurd (cc)
    told Equal r e = r
    told Greater r e = absurd (cc)

pub elements_tied : (a b : List ℕ) → Decides (is_eq (slice_cmp nat_cmp a b)) (Element a ≡ Element b)
elements_tied a b = Decides-like _ (λ e. ap Element e) (λ e. cc) (texts_tied a b)

pub attributes_tied : (a b : List ℕ) → Decides (is_eq (slice_cmp nat_cmp a b)) (Attribute a ≡ Attribute b)
attributes_tied a b = Decides-like _ (λ e. ap Attribute e) (λ e. cc) (texts_tied a b)

pub literals_tied : (a b : List ℕ) → Decides (is_eq (slice_cmp nat_cmp a b)) (Literal a ≡ Literal b)
literals_tied a b = Decides-like _ (λ e. ap Literal e) (λ e. cc) (texts_tied a b)

pub values_tied : (a b : ℤ) → Decides (is_eq (int_cmp a b)) (Number a ≡ Number b)
values_tied a b = Decides-like _ (λ e. ap Number e) (λ e. cc) (numbers_tied a b)
