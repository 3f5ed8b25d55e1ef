-- Kept ids and added ones in order, each once, are the merge of both.
use Rattle.std.proofs.Common.{◌≡◌, ℕ, Bool, ◌||◌, List, [], ◌∷◌, ◌++◌, refl, ap, sym, ◌∙◌, nat_eq}
use Rattle.std.proofs.lemmas.List.Folds.{list_any-append}
use Rattle.px_text.specs.Sets.{Above, has}
use Rattle.px_afa.specs.Sound.{AreRising}
use Rattle.px_delta.specs.Lists.{merge}
use Rattle.px_delta.proofs.TwoLists as two
use Rattle.px_delta.proofs.TwoLists.{one_list, has_merge, rising_merge, over_less}

over : (n : ℕ) (ns : List ℕ) → Above n ns → AreRising ns → two.IsOver n ns
over n [] a r = tt
over n (x ∷ ns) a r = (a, over_less n x ns a (over x ns r.0 r.1))

rise : (ns : List ℕ) → AreRising ns → two.AreRising ns
rise [] r = tt
rise (x ∷ ns) r = (over x ns r.0 r.1, rise ns r.1)

has_same : (ns : List ℕ) (q : ℕ) → two.has ns q ≡ has ns q
has_same [] q = refl
has_same (x ∷ ns) q = ap (λ (b : Bool). nat_eq x q || b) (has_same ns q)

pub merged : (all kept added both : List ℕ) → both ≡ kept ++ added → AreRising all → ((q : ℕ) → has all q ≡ has both q) → AreRising added → all ≡ merge kept added
merged all kept added both e rises same r =
    one_list all (merge kept added) (rise all rises) (rising_merge kept added (rise added r))
    (λ q.
    has_same all q ∙ same q ∙ ap (λ ns. has ns q) e ∙ list_any-append (λ m. nat_eq m q) kept added
    ∙ sym (has_merge q kept added ∙ ap (λ (b : Bool). b || two.has added q) (has_same kept q) ∙ ap (λ (b : Bool). has kept q || b) (has_same added q)))
