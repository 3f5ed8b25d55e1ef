-- How a map of texts is looked up and changed.
use Rattle.std.proofs.Common.{◌≡◌, ℕ, Bool, true, false, cond, List, [], ◌∷◌, map, Vec, Some, refl, sym, ◌∙◌, ap}
use Rattle.std.specs.Str.{bytes_eq}
use Rattle.std.specs.Global.{Global}
use Rattle.std.specs.declared.cmp.Ordering.{Ordering}
use Rattle.std.specs.declared.cmp.Ordering.TheVariants.{Less, Equal, Greater}
use Rattle.std.specs.Ordering.{is_eq, nat_cmp, match_ordering}
use Rattle.std.specs.Cmp.Lexicographic.{slice_cmp, texts_ties}
use Rattle.std.specs.BTreeMap.{insert_entry}
use Rattle.std.specs.Map.{lookup}
use Rattle.std.proofs.lemmas.Slice.Eq.{bytes_eq-Decides}
use Rattle.px_afa.specs.Dictionaries.{found}

abbrev Entries : Type 0
Entries = List (Vec ℕ Global × ℕ)

abbrev pub texts : Entries → List (List ℕ × ℕ)
texts entries = map (λ entry. (entry.0.items, entry.1)) entries

tied : (a b : List ℕ) → is_eq (slice_cmp nat_cmp a b) ≡ bytes_eq a b
tied a b = sym (texts_ties a b)

-- a map finds a text as a search through its entries does
pub looked_up : (entries : Entries) (text : List ℕ) → lookup (λ key. is_eq (slice_cmp nat_cmp text key.items)) entries ≡ found (texts entries) text
looked_up [] text = refl
looked_up (e ∷ entries) text =
    ap (λ b. cond b (Some e.1) (lookup (λ key. is_eq (slice_cmp nat_cmp text key.items)) entries)) (tied text e.0.items)
    ∙ ap (cond (bytes_eq text e.0.items) (Some e.1)) (looked_up entries text)

pub put_entry : (cmp : Vec ℕ Global → Vec ℕ Global → Ordering) → ((a b : Vec ℕ Global) → cmp a b ≡ slice_cmp nat_cmp a.items b.items) →
    (entries : Entries) (key : Vec ℕ Global) (number : ℕ) (text : List ℕ) →
    found (texts (insert_entry cmp entries key number)) text ≡ cond (bytes_eq text key.items) (Some number) (found (texts entries) text)
put_entry cmp is [] key number text = refl
put_entry cmp is (e ∷ entries) key number text = go (cmp key e.0) refl (put_entry cmp is entries key number text)
  where
    go : (o : Ordering) → cmp key e.0 ≡ o → found (texts (insert_entry cmp entries key number)) text ≡ cond (bytes_eq text key.items) (Some number) (found (texts entries) text) →
        found (texts (match_ordering o ((key, number) ∷ e ∷ entries) ((e.0, number) ∷ entries) (e ∷ insert_entry cmp entries key number))) text
        ≡ cond (bytes_eq text key.items) (Some number) (cond (bytes_eq text e.0.items) (Some e.1) (found (texts entries) text))
    go Less h ih = refl
    go Equal h ih =
        let same : key.items ≡ e.0.items = (bytes_eq-Decides key.items e.0.items).0 (sym (tied key.items e.0.items) ∙ ap is_eq (sym (is key e.0) ∙ h)) in
        ap (λ items. cond (bytes_eq text items) (Some number) (found (texts entries) text)) (sym same)
        ∙ by (bytes_eq text key.items) (bytes_eq text e.0.items) (ap (bytes_eq text) same)
      where
        by : (b c : Bool) → b ≡ c → cond b (Some number) (found (texts entries) text) ≡ cond b (Some number) (cond c (Some e.1) (found (texts entries) text))
        by true c f = refl
        by false false f = refl
        by false true f = cc
    go Greater h ih = ap (cond (bytes_eq text e.0.items) (Some e.1)) ih ∙ by (bytes_eq text key.items) (bytes_eq text e.0.items) refl refl
      where
        apart : bytes_eq text key.items ≡ true → bytes_eq text e.0.items ≡ true → ⊥
        apart f g =
            let same : key.items ≡ e.0.items = sym ((bytes_eq-Decides text key.items).0 f) ∙ (bytes_eq-Decides text e.0.items).0 g in
            let tie : is_eq (slice_cmp nat_cmp key.items e.0.items) ≡ true = tied key.items e.0.items ∙ (bytes_eq-Decides key.items e.0.items).1 same in
            let greater : is_eq (slice_cmp nat_cmp key.items e.0.items) ≡ false = ap is_eq (sym (is key e.0) ∙ h) in
            cc

        by : (b c : Bool) → bytes_eq text key.items ≡ b → bytes_eq text e.0.items ≡ c →
            cond c (Some e.1) (cond b (Some number) (found (texts entries) text)) ≡ cond b (Some number) (cond c (Some e.1) (found (texts entries) text))
        by true true f g = absurd (apart f g)
        by true false f g = refl
        by false c f g = refl
