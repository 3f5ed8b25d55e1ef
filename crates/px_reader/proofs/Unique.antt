-- Events are those of one tree, so lines spell one tree.
use Rattle.std.proofs.Common.{◌≡◌, ℕ, Bool, true, false, List, [], ◌∷◌, ◌++◌, map, refl, ap, append_assoc}
use Rattle.px_text.specs.declared.attribute.Attribute.{Attribute}
use Rattle.px_text.specs.Nodes.{Nodes, NoNodes, TextThen, ElementThen, Root}
use Rattle.px_reader.specs.declared.event.Event.{Event}
use Rattle.px_reader.specs.declared.event.Event.TheVariants.{Attr, End}
use Rattle.px_reader.specs.Spelling.{attribute_event, events, events_of, Spells, kinds}
use Rattle.px_reader.proofs.MachineLaws.{spelt_accepted}

is_attribute : List Event → Bool
is_attribute (Attr name value ∷ evs) = true
is_attribute _ = false

-- the events of a body begin with no attribute
body_event : (nodes : Nodes) (evs : List Event) → is_attribute (events nodes ++ End ∷ evs) ≡ false
unfolding is_attribute
body_event NoNodes evs = refl
body_event (TextThen text behind) evs = refl
body_event (ElementThen name attributes children behind) evs = refl

same_attribute : (a b : Attribute) → attribute_event a ≡ attribute_event b → a ≡ b
same_attribute a b e =
    let n : a.name ≡ b.name = cc in let v : a.value ≡ b.value = cc in
    λ i. record { name = n i; value = v i }

attributes_one : (ps bs : List Attribute) (x y : List Event) → is_attribute x ≡ false → is_attribute y ≡ false →
    map attribute_event ps ++ x ≡ map attribute_event bs ++ y → (ps ≡ bs) × (x ≡ y)
unfolding is_attribute
attributes_one [] [] x y p q e = (refl, e)
attributes_one [] (b ∷ bs) x y p q e = absurd (let f : is_attribute (Attr b.name b.value ∷ (map attribute_event bs ++ y)) ≡ false = rw e at p in cc)
attributes_one (a ∷ ps) [] x y p q e = absurd (let f : is_attribute (Attr a.name a.value ∷ (map attribute_event ps ++ x)) ≡ false = rw (← e) at q in cc)
attributes_one (a ∷ ps) (b ∷ bs) x y p q e =
    let head : attribute_event a ≡ attribute_event b = cc in
    let tail : map attribute_event ps ++ x ≡ map attribute_event bs ++ y = cc in
    let same = same_attribute a b head in
    let rest = attributes_one ps bs x y p q tail in
    ((λ i. same i ∷ rest.0 i), rest.1)

events_one : (a b : Nodes) (x y : List Event) → events a ++ End ∷ x ≡ events b ++ End ∷ y → (a ≡ b) × (x ≡ y)
events_one NoNodes NoNodes x y e = (refl, cc)
events_one NoNodes (TextThen text behind) x y e = absurd (cc)
events_one NoNodes (ElementThen name attributes children behind) x y e = absurd (cc)
events_one (TextThen text behind) NoNodes x y e = absurd (cc)
events_one (TextThen text behind) (TextThen text' behind') x y e =
    let t : text ≡ text' = cc in
    let rest = events_one behind behind' x y cc in
    ((λ i. TextThen (t i) (rest.0 i)), rest.1)
events_one (TextThen text behind) (ElementThen name attributes children behind') x y e = absurd (cc)
events_one (ElementThen name attributes children behind) NoNodes x y e = absurd (cc)
events_one (ElementThen name attributes children behind) (TextThen text behind') x y e = absurd (cc)
events_one (ElementThen n ps kids behind) (ElementThen n' ps' kids' behind') x y e =
    let name : n ≡ n' = cc in
    let tail : (map attribute_event ps ++ (events kids ++ End ∷ events behind)) ++ End ∷ x ≡ (map attribute_event ps' ++ (events kids' ++ End ∷ events behind')) ++ End ∷ y = cc in
    let inner : map attribute_event ps ++ (events kids ++ End ∷ (events behind ++ End ∷ x)) ≡ map attribute_event ps' ++ (events kids' ++ End ∷ (events behind' ++ End ∷ y)) = simp append_assoc at tail in
    let a = attributes_one ps ps' (events kids ++ End ∷ (events behind ++ End ∷ x)) (events kids' ++ End ∷ (events behind' ++ End ∷ y))
    (body_event kids (events behind ++ End ∷ x)) (body_event kids' (events behind' ++ End ∷ y)) inner in
    let k = events_one kids kids' (events behind ++ End ∷ x) (events behind' ++ End ∷ y) a.1 in
    let b = events_one behind behind' x y k.1 in
    ((λ i. ElementThen (name i) (a.0 i) (k.0 i) (b.0 i)), b.1)

abbrev name_of : Nodes → List ℕ
name_of (ElementThen name attributes children behind) = name
name_of _ = []

abbrev attributes_of : Nodes → List Attribute
attributes_of (ElementThen name attributes children behind) = attributes
attributes_of _ = []

abbrev children_of : Nodes → Nodes
children_of (ElementThen name attributes children behind) = children
children_of _ = NoNodes

-- lines spell one tree
pub spells_one : (lines : List (List ℕ)) (root other : Root) → Spells lines root → Spells lines other → root ≡ other
spells_one lines root other d d' =
    let e = spelt_accepted (kinds lines) root d in
    let e' = spelt_accepted (kinds lines) other d' in
    let same : events_of root ≡ events_of other = cc in
    one same
  where
    one : events_of root ≡ events_of other → root ≡ other
    one same =
        let whole = ap (λ evs. evs ++ End ∷ []) same in
        let r = events_one (ElementThen root.name root.attributes root.children NoNodes) (ElementThen other.name other.attributes other.children NoNodes) [] [] whole in
        let n : root.name ≡ other.name = ap name_of r.0 in
        let a : root.attributes ≡ other.attributes = ap attributes_of r.0 in
        let c : root.children ≡ other.children = ap children_of r.0 in
        λ i. record { name = n i; attributes = a i; children = c i }
