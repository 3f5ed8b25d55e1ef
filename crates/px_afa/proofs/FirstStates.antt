-- The filters of a live list, by their first states.
use Rattle.std.proofs.Common.{◌≡◌, ℕ, Bool, true, false, cond, List, [], ◌∷◌, map, filter, refl, sym, ◌∙◌, ap, None}
use Rattle.px_text.specs.Nodes.{Root, AtDocument}
use Rattle.px_xpath.specs.declared.filter.Axis.{Axis}
use Rattle.px_xpath.specs.declared.filter.Test.{Test}
use Rattle.px_xpath.specs.Filters.{Way, Arrived, StepThen}
use Rattle.px_xpath.specs.Meaning.{holds, way_holds}
use Rattle.px_xpath.specs.Histories.{Subscription}
use Rattle.px_xpath.specs.Proper.{has_steps}
use Rattle.px_afa.specs.declared.state.Body.{Body}
use Rattle.px_afa.specs.declared.state.State.{State}
use Rattle.px_afa.specs.declared.state.State.TheVariants as state
use Rattle.px_afa.specs.declared.state.First.{First}
use Rattle.px_afa.specs.Contents.{Content, root_content, characters}
use Rattle.px_afa.specs.Truth.{true_at}
use Rattle.px_afa.specs.Orders.{IsOrdered}
use Rattle.px_afa.specs.Building.{Made, share, one_of, way_made, conditions_made, filters_made, automata}
use Rattle.px_afa.specs.Accepting.{true_firsts, IsPath, ArePaths, HaveSteps}
use Rattle.px_afa.proofs.Candidates.{document_text}
use Rattle.px_afa.proofs.Growing.{Grows, grows-on, grows-same, shared}
use Rattle.px_afa.proofs.Right.{Right, RightBody, way-right, one_of-right, conditions-right, joined-right, body-right}

-- the state of a whole path
abbrev pub first_made : Way → List State → Made
first_made way states = let made = way_made way None states in one_of made.parts made.states

path_made-is : (axis : Axis) (asked : Test) (first states : List State) (body : Body) {holds : _} → IsOrdered states → RightBody first (record { states = states; body = body }) holds →
    IsPath (share (state.Path axis asked body) states).states (share (state.Path axis asked body) states).number
path_made-is axis asked first states body ordered r = (axis, asked, body, (shared (state.Path axis asked body) states ordered r.below).is)

-- the first state of a path is a Path
first-is : (way : Way) → has_steps way ≡ true → (states : List State) → IsOrdered states → IsPath (first_made way states).states (first_made way states).number
first-is Arrived h states ordered = cc
first-is (StepThen axis asked conditions onward) h states ordered =
    let a = conditions-right conditions states ordered in
    let made = conditions_made conditions states in
    let b = way-right onward None made.states (a.grows.ordered ordered) in
    let both = joined-right states made (way_made onward None made.states) _ _ a.grows a.below a.means_each b in
    let body = body-right states (way_made onward None made.states).states _ _ (both.grows.ordered ordered) both in
    path_made-is axis asked states _ _ (body.grows.ordered ordered) body

first-right : (way : Way) (states : List State) → IsOrdered states → Right states (first_made way states) (λ x. way_holds way (λ y. true) x)
first-right way states ordered = let r = way-right way None states ordered in one_of-right states _ _ _ (r.grows.ordered ordered) r

pub filters-grow : (live : List Subscription) (states : List State) → IsOrdered states → Grows states (filters_made live states).states
filters-grow [] states ordered = grows-same states
filters-grow (s ∷ live) states ordered =
    let r = first-right s.filter states ordered in
    grows-on r.grows (filters-grow live (first_made s.filter states).states (r.grows.ordered ordered))

-- one filter before the others
first-match : (all : List State) (first : First) (rest : List First) (is : Bool) (ids : List ℕ) (root : Content) →
    true_at all first.state (characters root) root ≡ is → true_firsts all rest root ≡ ids → true_firsts all (first ∷ rest) root ≡ cond is (first.id ∷ ids) ids
first-match all first rest is ids root e f = rw (e, f) refl

kept-first : (root : Root) (s : Subscription) (live : List Subscription) →
    map (λ t. t.id) (filter (λ t. holds t.filter root) (s ∷ live)) ≡ cond (holds s.filter root) (s.id ∷ map (λ t. t.id) (filter (λ t. holds t.filter root) live)) (map (λ t. t.id) (filter (λ t. holds t.filter root) live))
kept-first root s live = go (holds s.filter root) refl
  where
    go : (b : Bool) → holds s.filter root ≡ b → map (λ t. t.id) (filter (λ t. holds t.filter root) (s ∷ live)) ≡ cond b (s.id ∷ map (λ t. t.id) (filter (λ t. holds t.filter root) live)) (map (λ t. t.id) (filter (λ t. holds t.filter root) live))
    go true e = rw e refl
    go false e = rw e refl

pub filters-match : (live : List Subscription) (states : List State) → IsOrdered states → (root : Root) →
    true_firsts (filters_made live states).states (filters_made live states).firsts (root_content root) ≡ map (λ s. s.id) (filter (λ s. holds s.filter root) live)
filters-match [] states ordered root = refl
filters-match (s ∷ live) states ordered root =
    let r = first-right s.filter states ordered in
    let made = first_made s.filter states in
    let more = filters-grow live made.states (r.grows.ordered ordered) in
    first-match (filters_made live made.states).states (record { id = s.id; state = made.number }) (filters_made live made.states).firsts
    (holds s.filter root) (map (λ t. t.id) (filter (λ t. holds t.filter root) live)) (root_content root)
    (more.keeps made.number r.within (characters (root_content root)) (root_content root)
    ∙ (ap (λ v. true_at made.states made.number v (root_content root)) (document_text root) ∙ r.means (AtDocument root)))
    (filters-match live made.states (r.grows.ordered ordered) root)
    ∙ sym (kept-first root s live)

pub filters-paths : (live : List Subscription) → HaveSteps live → (states : List State) → IsOrdered states → ArePaths (filters_made live states).states (filters_made live states).firsts
filters-paths [] h states ordered = tt
filters-paths (s ∷ live) h states ordered =
    let r = first-right s.filter states ordered in
    let made = first_made s.filter states in
    let more = filters-grow live made.states (r.grows.ordered ordered) in
    let is = first-is s.filter h.0 states ordered in
    ((is.0, is.1, is.2, more.finds made.number r.within ∙ is.3), filters-paths live h.1 made.states (r.grows.ordered ordered))

pub filters-ordered : (live : List Subscription) → IsOrdered (automata live).states
filters-ordered live = (filters-grow live [] tt).ordered tt

pub ids-are : (live : List Subscription) (states : List State) → map (λ f. f.id) (filters_made live states).firsts ≡ map (λ s. s.id) live
ids-are [] states = refl
ids-are (s ∷ live) states = ap (λ ids. s.id ∷ ids) (ids-are live (first_made s.filter states).states)
