-- The children that a Path state looks at are the candidates of a step.
use Rattle.std.proofs.Common.{◌≡◌, ℕ, Bool, false, ◌&&◌, ◌||◌, List, [], ◌∷◌, ◌++◌, map, append-nil, refl, sym, ◌∙◌, ap}
use Rattle.std.specs.List.{list_any}
use Rattle.std.proofs.lemmas.List.Folds.{list_any-append}
use Rattle.px_text.specs.declared.attribute.Attribute.{Attribute}
use Rattle.px_text.specs.Nodes.{Nodes, NoNodes, TextThen, ElementThen, Root, Place, AtDocument, AtElement, AtAttribute, AtText, members, all_below, string_value}
use Rattle.px_text.specs.Nodes as nodes
use Rattle.px_xpath.specs.declared.filter.Axis.{Axis}
use Rattle.px_xpath.specs.declared.filter.Axis.TheVariants.{Child, Below}
use Rattle.px_xpath.specs.declared.filter.Test.{Test}
use Rattle.px_xpath.specs.declared.filter.Test.TheVariants as tests
use Rattle.px_xpath.specs.Meaning.{candidates}
use Rattle.px_xpath.specs.Meaning as filter
use Rattle.px_afa.specs.Contents.{ElementKind, AttributeKind, TextKind, Content, Empty, characters, with_attributes, nodes_content, content_of, root_content}
use Rattle.px_afa.specs.Truth.{meets, some_child}
use Rattle.px_afa.proofs.Members.{or_assoc}
use Rattle.std.proofs.Math.Bool.{or-false}

characters-attributes : (attributes : List Attribute) (content : Content) → characters (with_attributes attributes content) ≡ characters content
characters-attributes [] content = refl
characters-attributes (a ∷ attributes) content = characters-attributes attributes content

characters-are : (ns : Nodes) → characters (nodes_content ns) ≡ nodes.characters ns
characters-are NoNodes = refl
characters-are (TextThen text behind) = ap (λ t. text ++ t) (characters-are behind)
characters-are (ElementThen name attributes children behind) =
    ap (λ t. t ++ characters (nodes_content behind)) (characters-attributes attributes (nodes_content children) ∙ characters-are children)
    ∙ ap (λ t. nodes.characters children ++ t) (characters-are behind)

element_text : (attributes : List Attribute) (children : Nodes) → characters (with_attributes attributes (nodes_content children)) ≡ nodes.characters children
element_text attributes children = characters-attributes attributes (nodes_content children) ∙ characters-are children

meets_element : (asked : Test) (name : List ℕ) (attributes : List Attribute) (children : Nodes) → meets asked (ElementKind name) ≡ filter.meets asked (AtElement name attributes children)
meets_element (tests.Element wanted) name attributes children = refl
meets_element tests.AnyElement name attributes children = refl
meets_element (tests.Attribute wanted) name attributes children = refl
meets_element tests.AnyAttribute name attributes children = refl
meets_element tests.Text name attributes children = refl

meets_attribute : (asked : Test) (a : Attribute) → meets asked (AttributeKind a.name) ≡ filter.meets asked (AtAttribute a)
meets_attribute (tests.Element wanted) a = refl
meets_attribute tests.AnyElement a = refl
meets_attribute (tests.Attribute wanted) a = refl
meets_attribute tests.AnyAttribute a = refl
meets_attribute tests.Text a = refl

meets_text : (asked : Test) (text : List ℕ) → meets asked TextKind ≡ filter.meets asked (AtText text)
meets_text (tests.Element wanted) text = refl
meets_text tests.AnyElement text = refl
meets_text (tests.Attribute wanted) text = refl
meets_text tests.AnyAttribute text = refl
meets_text tests.Text text = refl

-- a place meets the test and passes
abbrev pub passes_at : Test → (List ℕ → Content → Bool) → Place → Bool
passes_at asked p y = filter.meets asked y && p (string_value y) (content_of y)

attributes-are : (axis : Axis) (asked : Test) (p : List ℕ → Content → Bool) (attributes : List Attribute) (content : Content) →
    some_child axis asked p (with_attributes attributes content) ≡ (list_any (passes_at asked p) (map AtAttribute attributes) || some_child axis asked p content)
attributes-are axis asked p [] content = refl
attributes-are axis asked p (a ∷ attributes) content =
    ap (λ b. (b && p a.value Empty) || some_child axis asked p (with_attributes attributes content)) (meets_attribute asked a)
    ∙ (ap (λ b. passes_at asked p (AtAttribute a) || b) (attributes-are axis asked p attributes content)
    ∙ sym (or_assoc (passes_at asked p (AtAttribute a)) (list_any (passes_at asked p) (map AtAttribute attributes)) (some_child axis asked p content)))

element-is : (asked : Test) (p : List ℕ → Content → Bool) (name : List ℕ) (attributes : List Attribute) (children : Nodes) →
    (meets asked (ElementKind name) && p (characters (with_attributes attributes (nodes_content children))) (with_attributes attributes (nodes_content children)))
    ≡ passes_at asked p (AtElement name attributes children)
element-is asked p name attributes children = rw (meets_element asked name attributes children, element_text attributes children) refl

members-are : (asked : Test) (p : List ℕ → Content → Bool) (ns : Nodes) → some_child Child asked p (nodes_content ns) ≡ list_any (passes_at asked p) (members ns)
members-are asked p NoNodes = refl
members-are asked p (TextThen text behind) =
    ap (λ b. (b && p text Empty) || some_child Child asked p (nodes_content behind)) (meets_text asked text)
    ∙ ap (λ b. passes_at asked p (AtText text) || b) (members-are asked p behind)
members-are asked p (ElementThen name attributes children behind) =
    ap (λ b. b || some_child Child asked p (nodes_content behind)) (or-false _ ∙ element-is asked p name attributes children)
    ∙ ap (λ b. passes_at asked p (AtElement name attributes children) || b) (members-are asked p behind)

below-are : (asked : Test) (p : List ℕ → Content → Bool) (ns : Nodes) → some_child Below asked p (nodes_content ns) ≡ list_any (passes_at asked p) (all_below ns)
below-are asked p NoNodes = refl
below-are asked p (TextThen text behind) =
    ap (λ b. (b && p text Empty) || some_child Below asked p (nodes_content behind)) (meets_text asked text)
    ∙ ap (λ b. passes_at asked p (AtText text) || b) (below-are asked p behind)
below-are asked p (ElementThen name attributes children behind) =
    regroup (element-is asked p name attributes children)
    (attributes-are Below asked p attributes (nodes_content children)
    ∙ (ap (λ b. list_any (passes_at asked p) (map AtAttribute attributes) || b) (below-are asked p children)
    ∙ sym (list_any-append (passes_at asked p) (map AtAttribute attributes) (all_below children))))
    (below-are asked p behind)
    ∙ ap (λ b. passes_at asked p (AtElement name attributes children) || b) whole
  where
    regroup : {a b c a' b' c' : Bool} → a ≡ a' → b ≡ b' → c ≡ c' → ((a || b) || c) ≡ (a' || (b' || c'))
    regroup {a} {b} {c} {a'} {b'} {c'} e f g = rw (e, f, g) (or_assoc a' b' c')

    whole : (list_any (passes_at asked p) (map AtAttribute attributes ++ all_below children) || list_any (passes_at asked p) (all_below behind))
        ≡ list_any (passes_at asked p) (map AtAttribute attributes ++ all_below children ++ all_below behind)
    whole = sym (list_any-append (passes_at asked p) (map AtAttribute attributes ++ all_below children) (all_below behind))

pub candidates-are : (axis : Axis) (asked : Test) (p : List ℕ → Content → Bool) (x : Place) →
    some_child axis asked p (content_of x) ≡ list_any (passes_at asked p) (candidates axis x)
candidates-are Child asked p (AtDocument root) =
    ap (λ b. b || false) (or-false _ ∙ element-is asked p root.name root.attributes root.children)
candidates-are Below asked p (AtDocument root) =
    or-false _
    ∙ (ap (λ b. b || some_child Below asked p (with_attributes root.attributes (nodes_content root.children))) (element-is asked p root.name root.attributes root.children)
    ∙ ap (λ b. passes_at asked p (AtElement root.name root.attributes root.children) || b)
    (attributes-are Below asked p root.attributes (nodes_content root.children)
    ∙ (ap (λ b. list_any (passes_at asked p) (map AtAttribute root.attributes) || b) (below-are asked p root.children)
    ∙ sym (list_any-append (passes_at asked p) (map AtAttribute root.attributes) (all_below root.children)))))
candidates-are Child asked p (AtElement name attributes children) =
    attributes-are Child asked p attributes (nodes_content children)
    ∙ (ap (λ b. list_any (passes_at asked p) (map AtAttribute attributes) || b) (members-are asked p children)
    ∙ sym (list_any-append (passes_at asked p) (map AtAttribute attributes) (members children)))
candidates-are Below asked p (AtElement name attributes children) =
    attributes-are Below asked p attributes (nodes_content children)
    ∙ (ap (λ b. list_any (passes_at asked p) (map AtAttribute attributes) || b) (below-are asked p children)
    ∙ sym (list_any-append (passes_at asked p) (map AtAttribute attributes) (all_below children)))
candidates-are Child asked p (AtAttribute a) = refl
candidates-are Below asked p (AtAttribute a) = refl
candidates-are Child asked p (AtText text) = refl
candidates-are Below asked p (AtText text) = refl

-- the characters of a document are the string-value of its root
pub document_text : (root : Root) → characters (root_content root) ≡ string_value (AtDocument root)
document_text root = append-nil (characters (with_attributes root.attributes (nodes_content root.children))) ∙ element_text root.attributes root.children
