-- Values that are there, and texts that are the same.
use Rattle.std.proofs.Common.{◌≡◌, ℕ, true, List, Some, None, refl}
use Rattle.std.specs.Prelude.{bytes_eq}
use Rattle.std.proofs.lemmas.Slice.Eq.{bytes_eq-Decides}

pub not_some : {A : Type 0} {x : A} → None ≡ Some x → ⊥
not_some e = absurd (cc)

pub not_none : {A : Type 0} {x : A} → Some x ≡ None → ⊥
not_none e = absurd (cc)

pub some_same : {A : Type 0} {x y : A} → Some x ≡ Some y → x ≡ y
some_same e = cc

pub same_text : (a b : List ℕ) → bytes_eq a b ≡ true → a ≡ b
same_text a b e = (bytes_eq-Decides a b).0 e

pub same_self : (a : List ℕ) → bytes_eq a a ≡ true
same_self a = (bytes_eq-Decides a a).1 refl
