-- Which children are still to be read.
use Rattle.std.proofs.Common.{◌≡◌, ℕ, List, [], ◌∷◌, ◌++◌, map, refl, ap, sym, ◌∙◌, ◌⊎◌, inl, inr, append_assoc}
use Rattle.px_text.specs.declared.attribute.Attribute.{Attribute}
use Rattle.px_text.specs.Nodes.{Nodes, NoNodes, TextThen, ElementThen}
use Rattle.px_reader.specs.declared.event.Event.{Event}
use Rattle.px_reader.specs.declared.event.Event.TheVariants as event
use Rattle.px_reader.specs.Spelling.{attribute_event, events}
use Rattle.px_tree.specs.declared.tree.Node.{Node, Elem, Text}
use Rattle.px_tree.specs.declared.tree.Element.{Element}
use Rattle.px_tree.specs.Trees.{nodes, then}
use Rattle.px_tree.specs.Events.{attributes_of, behind_attributes}
use Rattle.px_tree.proofs.TreeViews.{then-Elem}

-- the nodes of a list, and what is behind them
abbrev pub onto : List Node → Nodes → Nodes
onto [] behind = behind
onto (n ∷ ns) behind = then n (onto ns behind)

pub onto_nothing : (ns : List Node) → onto ns NoNodes ≡ nodes ns
onto_nothing [] = refl
onto_nothing (n ∷ ns) = ap (then n) (onto_nothing ns)

onto_more : (ns : List Node) (n : Node) (behind : Nodes) → onto (ns ++ n ∷ []) behind ≡ onto ns (then n behind)
onto_more [] n behind = refl
onto_more (m ∷ ns) n behind = ap (then m) (onto_more ns n behind)

-- some of the children have been read, and these events are left
abbrev pub IsLeft : (all : List Event) (read : List Node) (left : List Event) → Type 0
IsLeft all read left =
    (children : Nodes) (rest : List Event) → all ≡ events children ++ event.End ∷ rest →
    (more : Nodes) × (children ≡ onto read more) × (left ≡ events more ++ event.End ∷ rest)

pub left_text : (all : List Event) (read : List Node) (text : List ℕ) (behind left : List Event) → behind ≡ event.Text text ∷ left →
    IsLeft all read behind → IsLeft all (read ++ Text text ∷ []) left
left_text all read text behind left e inv children rest is = let (more, a, b) = inv children rest is in cases more a (sym e ∙ b)
  where
    cases : (more : Nodes) → children ≡ onto read more → event.Text text ∷ left ≡ events more ++ event.End ∷ rest →
        (next : Nodes) × (children ≡ onto (read ++ Text text ∷ []) next) × (left ≡ events next ++ event.End ∷ rest)
    cases NoNodes a b = absurd (cc)
    cases (TextThen t next) a b =
        let same : t ≡ text = cc in (next, a ∙ rw same (sym (onto_more read (Text text) next)), cc)
    cases (ElementThen name attributes kids next) a b = absurd (cc)

-- how an element is read whose events these are
abbrev pub ReadsElement : (name : List ℕ) (all : List Event) (read : Element) (left : List Event) → Type 0
ReadsElement name all read left =
    (attributes : List Attribute) (children : Nodes) (rest : List Event) →
    all ≡ map attribute_event attributes ++ (events children ++ event.End ∷ rest) →
    (read.name ≡ name) × (read.attributes ≡ attributes) × (nodes read.children ≡ children) × (left ≡ rest)

pub left_element : (all : List Event) (read : List Node) (name : List ℕ) (behind inner : List Event) (e : Element) (left : List Event) →
    behind ≡ event.Start name ∷ inner → IsLeft all read behind → ReadsElement name inner e left → IsLeft all (read ++ Elem e ∷ []) left
left_element all read name behind inner e left starts inv reads children rest is =
    let (more, a, b) = inv children rest is in cases more a (sym starts ∙ b)
  where
    cases : (more : Nodes) → children ≡ onto read more → event.Start name ∷ inner ≡ events more ++ event.End ∷ rest →
        (next : Nodes) × (children ≡ onto (read ++ Elem e ∷ []) next) × (left ≡ events next ++ event.End ∷ rest)
    cases NoNodes a b = absurd (cc)
    cases (TextThen t next) a b = absurd (cc)
    cases (ElementThen n attributes kids next) a b =
        let same : n ≡ name = cc in
        let tail : inner ≡ (map attribute_event attributes ++ (events kids ++ event.End ∷ events next)) ++ event.End ∷ rest = cc in
        let r = reads attributes kids (events next ++ event.End ∷ rest) (tail ∙ simp append_assoc) in
        let node : ElementThen n attributes kids next ≡ then (Elem e) next = rw (then-Elem e next, r.0, r.1, r.2, same) refl in
        (next, a ∙ ap (onto read) node ∙ sym (onto_more read (Elem e) next), r.3)

-- where an event comes that begins no node, all children have been read, and it is the end
pub left_end : (all : List Event) (read : List Node) (e : Event) (behind left : List Event) → behind ≡ e ∷ left →
    ((name : List ℕ) × (value : List ℕ) × (e ≡ event.Attr name value)) ⊎ (e ≡ event.End) → IsLeft all read behind →
    (children : Nodes) (rest : List Event) → all ≡ events children ++ event.End ∷ rest → (nodes read ≡ children) × (left ≡ rest)
left_end all read e behind left is kind inv children rest whole =
    let (more, a, b) = inv children rest whole in cases more a (sym is ∙ b) kind
  where
    cases : (more : Nodes) → children ≡ onto read more → e ∷ left ≡ events more ++ event.End ∷ rest →
        ((name : List ℕ) × (value : List ℕ) × (e ≡ event.Attr name value)) ⊎ (e ≡ event.End) → (nodes read ≡ children) × (left ≡ rest)
    cases NoNodes a b (inl (name, value, k)) = absurd (let f : event.Attr name value ≡ event.End = cc in cc)
    cases NoNodes a b (inr k) = (sym (a ∙ onto_nothing read), cc)
    cases (TextThen t next) a b (inl (name, value, k)) = absurd (let f : event.Attr name value ≡ event.Text t = cc in cc)
    cases (TextThen t next) a b (inr k) = absurd (let f : event.End ≡ event.Text t = cc in cc)
    cases (ElementThen n attributes kids next) a b (inl (name, value, k)) = absurd (let f : event.Attr name value ≡ event.Start n = cc in cc)
    cases (ElementThen n attributes kids next) a b (inr k) = absurd (let f : event.End ≡ event.Start n = cc in cc)

-- the attributes are those in front of the children
pub attributes_front : (attributes : List Attribute) (children : Nodes) (rest : List Event) →
    (attributes_of (map attribute_event attributes ++ (events children ++ event.End ∷ rest)) ≡ attributes)
    × (behind_attributes (map attribute_event attributes ++ (events children ++ event.End ∷ rest)) ≡ events children ++ event.End ∷ rest)
attributes_front [] NoNodes rest = (refl, refl)
attributes_front [] (TextThen t next) rest = (refl, refl)
attributes_front [] (ElementThen n attributes kids next) rest = (refl, refl)
attributes_front (a ∷ attributes) children rest = let r = attributes_front attributes children rest in (ap (λ tail. a ∷ tail) r.0, r.1)
