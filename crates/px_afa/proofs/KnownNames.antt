-- How a table of names grows.
use Rattle.std.proofs.Common.{◌≡◌, ℕ, suc, ◌+◌, ◌-◌, ◌<◌, ◌≤◌, ◌⊎◌, inl, inr, Bool, true, false, not, ◌||◌, cond, List, [], ◌∷◌, ◌++◌, length, map, take, Option, Some, None, refl, sym, ◌∙◌, ap, subst, arith, nat_eq, nat_lt}
use Rattle.std.specs.Prelude.{slice_get, unwrap_or, bytes_eq}
use Rattle.std.proofs.lemmas.Bool.{ne_eqb, eqb-true, eqb-false, ltb-true, ltb-false}
use Rattle.std.proofs.lemmas.Slice.Eq.{bytes_eq-Decides}
use Rattle.std.proofs.lemmas.List.{length-take-le}
use Rattle.px_afa.specs.declared.state.State.{State}
use Rattle.px_afa.specs.declared.names.Names.{Names}
use Rattle.px_afa.specs.Building.{newest}
use Rattle.px_afa.specs.Contents.{Kind, ElementKind, AttributeKind}
use Rattle.px_afa.specs.Labels.{names_of, same_kind, contains_kind, with_name, place_of, label_number, kind_at, is_element_label, is_attribute_label}
use Rattle.px_afa.specs.Dictionaries.{found}
use Rattle.px_afa.specs.Kept.{AreNames, known_label, is_element_name, is_attribute_name, flag_at}
use Rattle.px_afa.proofs.ToldLabels.{same_kind-is, same_kind-same, place-not, kind_at-low}
use Rattle.px_afa.proofs.StatesByNumber.{newest-length}
use Rattle.px_afa.proofs.Sizes.{names-few}

abbrev known_place : (other i : ℕ) → List Kind → Kind → Option ℕ
known_place other i kinds kind = cond (contains_kind kinds kind) (Some (place_of other i kinds kind)) None

place_more : (other i : ℕ) (kinds : List Kind) (k x : Kind) → contains_kind kinds k ≡ false →
    known_place other i (kinds ++ k ∷ []) x ≡ cond (same_kind k x) (Some (i + length kinds)) (known_place other i kinds x)
place_more other i [] k x h = go (same_kind k x)
  where
    go : (b : Bool) → cond (b || false) (Some (cond b i other)) None ≡ cond b (Some (i + 0)) None
    go true = let e : i ≡ i + 0 = omega arith in ap Some e
    go false = refl
place_more other i (y ∷ kinds) k x h = start (same_kind y k) refl h (place_more other (suc i) kinds k x)
  where
    go : (c : Bool) → same_kind y x ≡ c → same_kind y k ≡ false → known_place other (suc i) (kinds ++ k ∷ []) x ≡ cond (same_kind k x) (Some (suc i + length kinds)) (known_place other (suc i) kinds x) →
        cond (c || contains_kind (kinds ++ k ∷ []) x) (Some (cond c i (place_of other (suc i) (kinds ++ k ∷ []) x))) None
        ≡ cond (same_kind k x) (Some (i + length (y ∷ kinds))) (cond (c || contains_kind kinds x) (Some (cond c i (place_of other (suc i) kinds x))) None)
    go true e apart ih = by (same_kind k x) refl
      where
        by : (d : Bool) → same_kind k x ≡ d → Some i ≡ cond d (Some (i + length (y ∷ kinds))) (Some i)
        by false f = refl
        by true f =
            let one : y ≡ x = same_kind-is y x e in
            let two : k ≡ x = same_kind-is k x f in
            let both : same_kind y k ≡ true = ap (same_kind y) (two ∙ sym one) ∙ same_kind-same y in
            cc
    go false e apart ih = let n : suc i + length kinds ≡ i + suc (length kinds) = omega arith in ih ∙ ap (λ m. cond (same_kind k x) (Some m) (known_place other (suc i) kinds x)) n

    start : (b : Bool) → same_kind y k ≡ b → (b || contains_kind kinds k) ≡ false →
        (contains_kind kinds k ≡ false → known_place other (suc i) (kinds ++ k ∷ []) x ≡ cond (same_kind k x) (Some (suc i + length kinds)) (known_place other (suc i) kinds x)) →
        known_place other i ((y ∷ kinds) ++ k ∷ []) x ≡ cond (same_kind k x) (Some (i + length (y ∷ kinds))) (known_place other i (y ∷ kinds) x)
    start true e h' ih = cc
    start false e h' ih = go (same_kind y x) refl e (ih h')

pub element_more : (kinds : List Kind) (k : Kind) (name : List ℕ) → contains_kind kinds k ≡ false →
    known_label (kinds ++ k ∷ []) (ElementKind name) ≡ cond (same_kind k (ElementKind name)) (Some (3 + length kinds)) (known_label kinds (ElementKind name))
element_more kinds k name h = place_more 1 3 kinds k (ElementKind name) h

pub attribute_more : (kinds : List Kind) (k : Kind) (name : List ℕ) → contains_kind kinds k ≡ false →
    known_label (kinds ++ k ∷ []) (AttributeKind name) ≡ cond (same_kind k (AttributeKind name)) (Some (3 + length kinds)) (known_label kinds (AttributeKind name))
attribute_more kinds k name h = place_more 2 3 kinds k (AttributeKind name) h

map_end : {A B : Type 0} (f : A → B) (xs : List A) (x : A) → map f (xs ++ x ∷ []) ≡ map f xs ++ f x ∷ []
map_end f [] x = refl
map_end f (y ∷ xs) x = ap (λ rest. f y ∷ rest) (map_end f xs x)

none_contains : (kinds : List Kind) (kind : Kind) → known_label kinds kind ≡ None → contains_kind kinds kind ≡ false
none_contains kinds kind e = go (contains_kind kinds kind) e
  where
    go : (b : Bool) → cond b (Some (label_number kinds kind)) None ≡ None → b ≡ false
    go true h = cc
    go false h = refl

pub turned : (a b : List ℕ) → bytes_eq a b ≡ bytes_eq b a
turned a b = go (bytes_eq a b) (bytes_eq b a) refl refl
  where
    go : (x y : Bool) → bytes_eq a b ≡ x → bytes_eq b a ≡ y → x ≡ y
    go true true e f = refl
    go false false e f = refl
    go true false e f = let g : bytes_eq b a ≡ true = (bytes_eq-Decides b a).1 (sym ((bytes_eq-Decides a b).0 e)) in cc
    go false true e f = let g : bytes_eq a b ≡ true = (bytes_eq-Decides a b).1 (sym ((bytes_eq-Decides b a).0 f)) in cc

-- a name that is put at the end
pub element_new : (old new : Names) (kinds : List Kind) (name : List ℕ) (label : ℕ) → AreNames old kinds → found old.elements name ≡ None → label ≡ 3 + length old.are_elements.items →
    ((other : List ℕ) → found new.elements other ≡ cond (bytes_eq other name) (Some label) (found old.elements other)) → new.attributes ≡ old.attributes →
    new.are_elements.items ≡ old.are_elements.items ++ true ∷ [] → AreNames new (with_name (Some (ElementKind name)) kinds)
element_new old new kinds name label are e at put rest flags =
    let c = none_contains kinds (ElementKind name) (sym (are.elements name) ∙ e) in
    subst (AreNames new) (sym (ap (λ b. cond b kinds (kinds ++ ElementKind name ∷ [])) c))
    (record {
      elements = λ other. put other ∙ (ap (λ b. cond b (Some label) (found old.elements other)) (turned other name)
          ∙ (ap (λ n. cond (bytes_eq name other) (Some n) (found old.elements other)) (at ∙ ap (λ n. 3 + n) (ap length are.are_elements ∙ map_length kinds))
          ∙ (ap (cond (bytes_eq name other) (Some (3 + length kinds))) (are.elements other) ∙ sym (element_more kinds (ElementKind name) other c))));
      attributes = λ other. ap (λ d. found d other) rest ∙ (are.attributes other ∙ sym (attribute_more kinds (ElementKind name) other c));
      are_elements = flags ∙ (ap (λ fs. fs ++ true ∷ []) are.are_elements ∙ sym (map_end is_element_name kinds (ElementKind name)));
      are_attributes = ap (map not) flags ∙ (map_end not old.are_elements.items true ∙ (ap (λ fs. fs ++ false ∷ []) are.are_attributes ∙ sym (map_end is_attribute_name kinds (ElementKind name))));
    })
  where
    map_length : (ks : List Kind) → length (map is_element_name ks) ≡ length ks
    map_length [] = refl
    map_length (k ∷ ks) = ap suc (map_length ks)

pub attribute_new : (old new : Names) (kinds : List Kind) (name : List ℕ) (label : ℕ) → AreNames old kinds → found old.attributes name ≡ None → label ≡ 3 + length old.are_elements.items →
    ((other : List ℕ) → found new.attributes other ≡ cond (bytes_eq other name) (Some label) (found old.attributes other)) → new.elements ≡ old.elements →
    new.are_elements.items ≡ old.are_elements.items ++ false ∷ [] → AreNames new (with_name (Some (AttributeKind name)) kinds)
attribute_new old new kinds name label are e at put rest flags =
    let c = none_contains kinds (AttributeKind name) (sym (are.attributes name) ∙ e) in
    subst (AreNames new) (sym (ap (λ b. cond b kinds (kinds ++ AttributeKind name ∷ [])) c))
    (record {
      attributes = λ other. put other ∙ (ap (λ b. cond b (Some label) (found old.attributes other)) (turned other name)
          ∙ (ap (λ n. cond (bytes_eq name other) (Some n) (found old.attributes other)) (at ∙ ap (λ n. 3 + n) (ap length are.are_elements ∙ map_length kinds))
          ∙ (ap (cond (bytes_eq name other) (Some (3 + length kinds))) (are.attributes other) ∙ sym (attribute_more kinds (AttributeKind name) other c))));
      elements = λ other. ap (λ d. found d other) rest ∙ (are.elements other ∙ sym (element_more kinds (AttributeKind name) other c));
      are_elements = flags ∙ (ap (λ fs. fs ++ false ∷ []) are.are_elements ∙ sym (map_end is_element_name kinds (AttributeKind name)));
      are_attributes = ap (map not) flags ∙ (map_end not old.are_elements.items false ∙ (ap (λ fs. fs ++ true ∷ []) are.are_attributes ∙ sym (map_end is_attribute_name kinds (AttributeKind name))));
    })
  where
    map_length : (ks : List Kind) → length (map is_element_name ks) ≡ length ks
    map_length [] = refl
    map_length (k ∷ ks) = ap suc (map_length ks)

-- the label that the table finds
pub element_label : (names : Names) (kinds : List Kind) (name : List ℕ) → AreNames names kinds → unwrap_or (found names.elements name) 1 ≡ label_number kinds (ElementKind name)
element_label names kinds name are = ap (λ o. unwrap_or o 1) (are.elements name) ∙ go (contains_kind kinds (ElementKind name)) refl
  where
    go : (b : Bool) → contains_kind kinds (ElementKind name) ≡ b → unwrap_or (cond b (Some (label_number kinds (ElementKind name))) None) 1 ≡ label_number kinds (ElementKind name)
    go true e = refl
    go false e = sym (place-not 1 3 kinds (ElementKind name) e)

pub attribute_label : (names : Names) (kinds : List Kind) (name : List ℕ) → AreNames names kinds → unwrap_or (found names.attributes name) 2 ≡ label_number kinds (AttributeKind name)
attribute_label names kinds name are = ap (λ o. unwrap_or o 2) (are.attributes name) ∙ go (contains_kind kinds (AttributeKind name)) refl
  where
    go : (b : Bool) → contains_kind kinds (AttributeKind name) ≡ b → unwrap_or (cond b (Some (label_number kinds (AttributeKind name))) None) 2 ≡ label_number kinds (AttributeKind name)
    go true e = refl
    go false e = sym (place-not 2 3 kinds (AttributeKind name) e)

-- what is kept for a label is what the name of the label is
flag_named : (kinds : List Kind) (flags : List Bool) (i label : ℕ) → flags ≡ map is_element_name kinds → i ≤ label →
    (kind_at i kinds label ≡ None) × (slice_get flags (label - i) ≡ None) ⊎ (k : Kind) × (kind_at i kinds label ≡ Some k) × (slice_get flags (label - i) ≡ Some (is_element_name k)) × (slice_get (map not flags) (label - i) ≡ Some (not (is_element_name k)))
flag_named [] flags i label are le = inl (refl, ap (λ fs. slice_get fs (label - i)) are)
flag_named (y ∷ kinds) [] i label are le = cc
flag_named (y ∷ kinds) (f ∷ flags) i label are le = go (nat_eq label i) refl (flag_named kinds flags (suc i) label)
  where
    rest : flags ≡ map is_element_name kinds
    rest = cc

    first : f ≡ is_element_name y
    first = cc

    go : (b : Bool) → nat_eq label i ≡ b → (flags ≡ map is_element_name kinds → suc i ≤ label →
        (kind_at (suc i) kinds label ≡ None) × (slice_get flags (label - suc i) ≡ None) ⊎ (k : Kind) × (kind_at (suc i) kinds label ≡ Some k) × (slice_get flags (label - suc i) ≡ Some (is_element_name k)) × (slice_get (map not flags) (label - suc i) ≡ Some (not (is_element_name k)))) →
        (cond b (Some y) (kind_at (suc i) kinds label) ≡ None) × (slice_get (f ∷ flags) (label - i) ≡ None) ⊎ (k : Kind) × (cond b (Some y) (kind_at (suc i) kinds label) ≡ Some k) × (slice_get (f ∷ flags) (label - i) ≡ Some (is_element_name k)) × (slice_get (map not (f ∷ flags)) (label - i) ≡ Some (not (is_element_name k)))
    go true e ih =
        let same : label ≡ i = eqb-true label i e in
        let at : label - i ≡ 0 = omega arith in
        inr (y, refl, rw at (ap Some first), rw at (ap (λ b. Some (not b)) first))
    go false e ih =
        let apart = eqb-false label i e in
        let more : suc i ≤ label = omega arith in
        let at : label - i ≡ suc (label - suc i) = omega arith in
        rw at (ih rest more)

abbrev pub element_flag : Option Bool → ℕ → Bool
element_flag None label = nat_eq label 1
element_flag (Some b) label = b

abbrev pub attribute_flag : Option Bool → ℕ → Bool
attribute_flag None label = nat_eq label 2
attribute_flag (Some b) label = not b

named_flag : (kinds : List Kind) (flags : List Bool) (attributes : map not flags ≡ map is_attribute_name kinds) (label : ℕ) → flags ≡ map is_element_name kinds → 3 ≤ label →
    (element_flag (slice_get flags (label - 3)) label ≡ is_element_label kinds label) × (attribute_flag (slice_get flags (label - 3)) label ≡ is_attribute_label kinds label)
named_flag kinds flags attributes label are le =
    elim (flag_named kinds flags 3 label are le) [
      | inl a ↦ (rw (a.0, a.1) (sym (or_false (nat_eq label 1))), rw (a.0, a.1) (sym (or_false (nat_eq label 2))))
      | inr a ↦
          let not_one : nat_eq label 1 ≡ false = ne_eqb label 1 (λ e. omega arith) in
          let not_two : nat_eq label 2 ≡ false = ne_eqb label 2 (λ e. omega arith) in
          (rw (a.1, a.2, not_one) refl, rw (a.1, a.2, not_two) (attribute_named a.0 kinds flags 3 label attributes a.1 a.3 le))
    ]
  where
    or_false : (b : Bool) → (b || false) ≡ b
    or_false true = refl
    or_false false = refl

    attribute_named : (k : Kind) (ks : List Kind) (fs : List Bool) (i l : ℕ) → map not fs ≡ map is_attribute_name ks → kind_at i ks l ≡ Some k → slice_get (map not fs) (l - i) ≡ Some (not (is_element_name k)) → i ≤ l →
        not (is_element_name k) ≡ is_attribute_name k
    attribute_named k ks fs i l are' at flag le' = go ks i l at (ap (λ gs. slice_get gs (l - i)) (sym are') ∙ flag) le'
      where
        go : (ks : List Kind) (i l : ℕ) → kind_at i ks l ≡ Some k → slice_get (map is_attribute_name ks) (l - i) ≡ Some (not (is_element_name k)) → i ≤ l → not (is_element_name k) ≡ is_attribute_name k
        go [] i l at' flag' le'' = cc
        go (y ∷ ys) i l at' flag' le'' = by (nat_eq l i) refl at' (go ys (suc i) l)
          where
            by : (b : Bool) → nat_eq l i ≡ b → cond b (Some y) (kind_at (suc i) ys l) ≡ Some k →
                (kind_at (suc i) ys l ≡ Some k → slice_get (map is_attribute_name ys) (l - suc i) ≡ Some (not (is_element_name k)) → suc i ≤ l → not (is_element_name k) ≡ is_attribute_name k) → not (is_element_name k) ≡ is_attribute_name k
            by true e at'' ih =
                let same : l ≡ i = eqb-true l i e in
                let zero' : l - i ≡ 0 = omega arith in
                let here : Some (is_attribute_name y) ≡ Some (not (is_element_name k)) = rw zero' at flag' in
                let is : y ≡ k = cc in
                let one : is_attribute_name y ≡ not (is_element_name k) = cc in
                sym one ∙ ap is_attribute_name is
            by false e at'' ih =
                let apart = eqb-false l i e in
                let more : suc i ≤ l = omega arith in
                let next : l - i ≡ suc (l - suc i) = omega arith in
                ih at'' (rw next at flag') more

flagged : (names : Names) (kinds : List Kind) (label : ℕ) → AreNames names kinds →
    (element_flag (flag_at names.are_elements.items label) label ≡ is_element_label kinds label) × (attribute_flag (flag_at names.are_elements.items label) label ≡ is_attribute_label kinds label)
flagged names kinds label are = go (nat_lt label 3) refl
  where
    or_false : (b : Bool) → b ≡ (b || false)
    or_false true = refl
    or_false false = refl

    go : (b : Bool) → nat_lt label 3 ≡ b → (element_flag (cond b None (slice_get names.are_elements.items (label - 3))) label ≡ is_element_label kinds label) × (attribute_flag (cond b None (slice_get names.are_elements.items (label - 3))) label ≡ is_attribute_label kinds label)
    go true e = let none : kind_at 3 kinds label ≡ None = kind_at-low 3 kinds label (ltb-true label 3 e) in (rw none (or_false (nat_eq label 1)), rw none (or_false (nat_eq label 2)))
    go false e = named_flag kinds names.are_elements.items are.are_attributes label are.are_elements (ltb-false label 3 e)

pub element_flagged : (names : Names) (kinds : List Kind) (label : ℕ) (flag : Option Bool) → AreNames names kinds → flag ≡ flag_at names.are_elements.items label → element_flag flag label ≡ is_element_label kinds label
element_flagged names kinds label flag are is = ap (λ f. element_flag f label) is ∙ (flagged names kinds label are).0

pub attribute_flagged : (names : Names) (kinds : List Kind) (label : ℕ) (flag : Option Bool) → AreNames names kinds → flag ≡ flag_at names.are_elements.items label → attribute_flag flag label ≡ is_attribute_label kinds label
attribute_flagged names kinds label flag are is = ap (λ f. attribute_flag f label) is ∙ (flagged names kinds label are).1

-- a table of the names of some states has room for one more
pub names_room : (names : Names) (states : List State) (n most : ℕ) → AreNames names (names_of (newest (take n states))) → n < length states → length states ≤ most → length names.are_elements.items < most
names_room names states n most are less le =
    let long : length names.are_elements.items ≡ length (names_of (newest (take n states))) = ap length are.are_elements ∙ map_length (names_of (newest (take n states))) in
    let few = names-few (newest (take n states)) in
    let turned = newest-length (take n states) in
    let front = length-take-le n states in
    omega arith
  where
    map_length : (ks : List Kind) → length (map is_element_name ks) ≡ length ks
    map_length [] = refl
    map_length (k ∷ ks) = ap suc (map_length ks)

pub names_few : (names : Names) (states : List State) (most : ℕ) → AreNames names (names_of (newest states)) → length states ≤ most → length names.are_elements.items ≤ most
names_few names states most are le =
    let long : length names.are_elements.items ≡ length (names_of (newest states)) = ap length are.are_elements ∙ map_length (names_of (newest states)) in
    let few = names-few (newest states) in
    let turned = newest-length states in
    omega arith
  where
    map_length : (ks : List Kind) → length (map is_element_name ks) ≡ length ks
    map_length [] = refl
    map_length (k ∷ ks) = ap suc (map_length ks)
