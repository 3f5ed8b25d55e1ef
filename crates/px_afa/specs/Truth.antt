-- When a state is true at a node. No set and no step occurs here.
use Rattle.std.specs.Prelude.{ℕ, Bool, true, false, not, ◌&&◌, ◌||◌, cond, List, [], ◌∷◌, length, Option, Some, None, nat_eq, bytes_eq}
use Rattle.std.specs.List.{list_any, list_all}
use Rattle.px_xpath.specs.declared.filter.Axis.{Axis}
use Rattle.px_xpath.specs.declared.filter.Axis.TheVariants.{Child, Below}
use Rattle.px_xpath.specs.declared.filter.Test.{Test}
use Rattle.px_xpath.specs.declared.filter.Test.TheVariants as test
use Rattle.px_xpath.specs.Meaning.{compares}
use Rattle.px_afa.specs.declared.state.Body.{Body}
use Rattle.px_afa.specs.declared.state.Body.TheVariants as body
use Rattle.px_afa.specs.declared.state.State.{State}
use Rattle.px_afa.specs.declared.state.State.TheVariants as state
use Rattle.px_afa.specs.Contents.{Kind, ElementKind, AttributeKind, TextKind, Content, Empty, Leaf, Element, leaf_kind, characters}

abbrev pub meets : Test → Kind → Bool
meets (test.Element wanted) (ElementKind name) = bytes_eq name wanted
meets test.AnyElement (ElementKind name) = true
meets (test.Attribute wanted) (AttributeKind name) = bytes_eq name wanted
meets test.AnyAttribute (AttributeKind name) = true
meets test.Text TextKind = true
meets _ _ = false

abbrev pub is_element : Kind → Bool
is_element (ElementKind name) = true
is_element _ = false

abbrev pub is_below : Axis → Bool
is_below Child = false
is_below Below = true

-- some child, or for Below some child or child of an element below, meets the test and passes
abbrev pub some_child : Axis → Test → (List ℕ → Content → Bool) → Content → Bool
some_child axis t passes Empty = false
some_child axis t passes (Leaf name value rest) = (meets t (leaf_kind name) && passes value Empty) || some_child axis t passes rest
some_child axis t passes (Element name inside rest) =
    ((meets t (ElementKind name) && passes (characters inside) inside) || (is_below axis && some_child axis t passes inside))
    || some_child axis t passes rest

-- `part` says of a state's number whether that state is true at a node
abbrev pub body_holds : (part : ℕ → List ℕ → Content → Bool) → Body → List ℕ → Content → Bool
body_holds part body.Always value content = true
body_holds part (body.State n) value content = part n value content

abbrev pub state_holds : State → (part : ℕ → List ℕ → Content → Bool) → List ℕ → Content → Bool
state_holds (state.Path axis t b) part value content = some_child axis t (body_holds part b) content
state_holds (state.And parts) part value content = list_all (λ n. part n value content) parts
state_holds (state.Or parts) part value content = list_any (λ n. part n value content) parts
state_holds (state.Not n) part value content = not (part n value content)
state_holds (state.Value r wanted) part value content = compares r wanted value

-- The states of a program stand newest first: the number of the first is the number of those behind it.
abbrev pub state_at : List State → ℕ → Option State
state_at [] n = None
state_at (s ∷ before) n = cond (nat_eq n (length before)) (Some s) (state_at before n)

-- the state with this number is true at a node with this string-value and content
abbrev pub true_at : List State → ℕ → List ℕ → Content → Bool
true_at [] n value content = false
true_at (s ∷ before) n value content =
    cond (nat_eq n (length before)) (state_holds s (true_at before) value content) (true_at before n value content)
