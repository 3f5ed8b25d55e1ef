-- Which ids the machine accepts.
use Rattle.std.proofs.Common.{◌≡◌, ℕ, true, cond, List, [], ◌∷◌, map, filter, refl, sym, ◌∙◌, ap, nat_eq, Some}
use Rattle.std.proofs.lemmas.Bool.{eq-eqb, or_left, or_right}
use Rattle.px_text.specs.Sets.{has}
use Rattle.px_xpath.specs.declared.filter.Axis.{Axis}
use Rattle.px_xpath.specs.declared.filter.Test.{Test}
use Rattle.px_afa.specs.declared.state.Body.{Body}
use Rattle.px_afa.specs.declared.state.State.{State}
use Rattle.px_afa.specs.declared.state.State.TheVariants as state
use Rattle.px_afa.specs.declared.state.First.{First}
use Rattle.px_text.specs.Nodes.{Root}
use Rattle.px_xpath.specs.Histories.{Subscription}
use Rattle.px_xpath.specs.Meaning.{holds}
use Rattle.px_afa.specs.Contents.{Content, characters, root_content}
use Rattle.px_afa.specs.Truth.{true_at, state_at}
use Rattle.px_afa.specs.Sets.{accept, first_set}
use Rattle.px_afa.specs.Building.{automata}
use Rattle.px_afa.specs.Machine.{Machine, IsTold, machine_of, gathered_of}
use Rattle.px_afa.specs.Orders.{IsOrdered}
use Rattle.px_afa.specs.Accepting.{true_firsts, ArePaths, HaveSteps, accepted, accepted_of_all}
use Rattle.px_afa.proofs.Members.{has-with_number}
use Rattle.px_afa.proofs.Found.{true_at-path}
use Rattle.px_afa.proofs.FirstStates.{filters-match, filters-paths, filters-ordered}
use Rattle.px_afa.proofs.Told as told
use Rattle.px_runner.proofs.Pruning.{prune-same}
use Rattle.px_runner.proofs.Gathered.{gathered-path}

-- two sets that agree on the first states accept the same
pub accept-same : (firsts : List First) (a b : List ℕ) → ((n : ℕ) → has (first_set firsts) n ≡ true → has a n ≡ has b n) → accept firsts a ≡ accept firsts b
accept-same [] a b h = refl
accept-same (f ∷ firsts) a b h =
    ap (λ c. cond c (f.id ∷ accept firsts a) (accept firsts a)) (h f.state (has-with_number f.state (first_set firsts) f.state ∙ or_left (nat_eq f.state f.state) (has (first_set firsts) f.state) (eq-eqb f.state f.state refl)))
    ∙ ap (λ r. cond (has b f.state) (f.id ∷ r) r) (accept-same firsts a b (λ n i. h n (has-with_number f.state (first_set firsts) n ∙ or_right (nat_eq f.state n) (has (first_set firsts) n) i)))

pub accepted-all : (machine : Machine) (firsts : List First) (root : Content) → accepted machine firsts root ≡ accepted_of_all machine firsts root
accepted-all machine firsts root = accept-same firsts _ _ (λ n h. prune-same machine root (first_set firsts) [] [] n h refl)

accept-true : (states : List State) (firsts : List First) (root : Content) (a : List ℕ) → ArePaths states firsts →
    ((n : ℕ) (axis : Axis) (asked : Test) (body : Body) → state_at states n ≡ Some (state.Path axis asked body) → has (first_set firsts) n ≡ true → has a n ≡ true_at states n (characters root) root) → accept firsts a ≡ true_firsts states firsts root
accept-true states [] root a paths h = refl
accept-true states (f ∷ firsts) root a paths h =
    let p = paths.0 in
    ap (λ c. cond c (f.id ∷ accept firsts a) (accept firsts a)) (h f.state p.0 p.1 p.2 p.3 (has-with_number f.state (first_set firsts) f.state ∙ or_left (nat_eq f.state f.state) (has (first_set firsts) f.state) (eq-eqb f.state f.state refl)))
    ∙ ap (λ r. cond (true_at states f.state (characters root) root) (f.id ∷ r) r) (accept-true states firsts root a paths.1 (λ n axis asked body e i. h n axis asked body e (has-with_number f.state (first_set firsts) n ∙ or_right (nat_eq f.state n) (has (first_set firsts) n) i)))

pub accepted-true_firsts : (machine : Machine) → IsTold machine → IsOrdered machine.states → (firsts : List First) → ArePaths machine.states firsts → (root : Content) →
    accepted machine firsts root ≡ true_firsts machine.states firsts root
accepted-true_firsts machine told ordered firsts paths root =
    accept-true machine.states firsts root (gathered_of machine (first_set firsts) [] root) paths
    (λ n axis asked body e h. gathered-path machine told ordered root (first_set firsts) [] n axis asked body e h ∙ sym (true_at-path machine.states ordered n axis asked body e (characters root) root))

-- the machine accepts exactly the filters that hold, where each first state is a Path
pub accepted-holds : (live : List Subscription) → ArePaths (automata live).states (automata live).firsts → (root : Root) →
    accepted (machine_of (automata live).states) (automata live).firsts (root_content root) ≡ map (λ s. s.id) (filter (λ s. holds s.filter root) live)
accepted-holds live paths root =
    accepted-true_firsts (machine_of (automata live).states) (told.told (automata live).states) (filters-ordered live) (automata live).firsts paths (root_content root)
    ∙ filters-match live [] tt root

pub accepted-matches : (live : List Subscription) → HaveSteps live → (root : Root) →
    accepted (machine_of (automata live).states) (automata live).firsts (root_content root) ≡ map (λ s. s.id) (filter (λ s. holds s.filter root) live)
accepted-matches live steps root = accepted-holds live (filters-paths live steps [] tt) root
