-- How many steps the machine makes.
use Rattle.std.proofs.Common.{◌≡◌, ℕ, ◌+◌, ◌*◌, List, [], ◌++◌, length, refl, ◌∙◌, arith}
use Rattle.std.proofs.lemmas.List.{length-append}
use Rattle.px_text.specs.Nodes.{Root}
use Rattle.px_afa.specs.declared.state.State.{State}
use Rattle.px_afa.specs.Contents.{Content, Empty, Leaf, Element, characters, root_content}
use Rattle.px_afa.specs.Building.{Automata}
use Rattle.px_afa.specs.Sets.{first_set}
use Rattle.px_afa.specs.Machine.{machine_of, after_leaf, after_element, needed_inside, gathered_of}
use Rattle.px_afa.specs.Steps.{Step, leaf_steps, start_steps, end_steps, run_from, run_of}
use Rattle.px_afa.specs.Counts.{elements, leaves}

joined : (a b : List Step) (m n : ℕ) → length a ≡ m → length b ≡ n → length (a ++ b) ≡ m + n
joined a b m n e f = let both = length-append a b in omega arith

run-counted : (states : List State) (needed gathered : List ℕ) (content : Content) → length (run_from states needed gathered content) ≡ 8 * elements content + 6 * leaves content
run-counted states needed gathered Empty = refl
run-counted states needed gathered (Leaf name value rest) =
    let more = run-counted states needed (after_leaf (machine_of states) needed gathered name value) rest in
    let all = joined (leaf_steps states needed gathered name value) _ 6 _ refl more in
    all ∙ omega arith
run-counted states needed gathered (Element name inside rest) =
    let wanted = needed_inside (machine_of states) needed name in
    let inner = gathered_of (machine_of states) wanted [] inside in
    let within = run-counted states wanted [] inside in
    let more = run-counted states needed (after_element (machine_of states) needed gathered name (characters inside) inner) rest in
    let closing : List Step = run_from states wanted [] inside ++ end_steps states needed gathered name (characters inside) inner in
    let end = joined (run_from states wanted [] inside) (end_steps states needed gathered name (characters inside) inner) _ 7 within refl in
    let whole = joined (start_steps states needed name) closing 1 _ refl end in
    joined (start_steps states needed name ++ closing) _ _ _ whole more ∙ omega arith

pub steps-counted : (automata : Automata) (root : Root) → length (run_of automata root) ≡ 8 * elements (root_content root) + 6 * leaves (root_content root)
steps-counted automata root = run-counted automata.states (first_set automata.firsts) [] (root_content root)
