-- The steps of a document are as many under each program, and not too many.
use Rattle.std.proofs.Common.{◌≡◌, ℕ, ◌+◌, ◌*◌, ◌≤◌, List, [], ◌++◌, length, length-append, refl, sym, ap, ◌∙◌, arith, subst}
use Rattle.px_text.specs.Nodes.{Root}
use Rattle.px_reader.specs.Spelling.{events_of}
use Rattle.px_reader.specs.declared.event.Event.{Event}
use Rattle.px_xpath.specs.Histories.{Change}
use Rattle.px_afa.specs.declared.state.State.{State}
use Rattle.px_afa.specs.Building.{program}
use Rattle.px_afa.specs.Contents.{Content, Empty, Leaf, Element, root_content, characters}
use Rattle.px_afa.specs.Machine.{machine_of, after_leaf, after_element, needed_inside, gathered_of}
use Rattle.px_afa.specs.Sets.{first_set}
use Rattle.px_afa.specs.Steps.{steps_of, run_from, leaf_steps, start_steps, end_steps}
use Rattle.px_runner.specs.Events.{ground}
use Rattle.px_runner.proofs.Fed.{tree-steps}
use Rattle.px_runner.proofs.Taken.{events-few}

-- so many, whatever the program
abbrev count : Content → ℕ
count Empty = 0
count (Leaf name value rest) = count rest + 6
count (Element name inside rest) = count inside + count rest + 8

counted : (states : List State) (needed gathered : List ℕ) (c : Content) → length (run_from states needed gathered c) ≡ count c
counted states needed gathered Empty = refl
counted states needed gathered (Leaf name value rest) =
    let behind = counted states needed (after_leaf (machine_of states) needed gathered name value) rest in
    let all = length-append (leaf_steps states needed gathered name value) (run_from states needed (after_leaf (machine_of states) needed gathered name value) rest) in
    omega arith
counted states needed gathered (Element name inside rest) =
    let wanted = needed_inside (machine_of states) needed name in
    let inner = gathered_of (machine_of states) wanted [] inside in
    let within = run_from states wanted [] inside in
    let last = end_steps states needed gathered name (characters inside) inner in
    let more = run_from states needed (after_element (machine_of states) needed gathered name (characters inside) inner) rest in
    let a = counted states wanted [] inside in
    let b = counted states needed (after_element (machine_of states) needed gathered name (characters inside) inner) rest in
    let whole = length-append (start_steps states needed name ++ (within ++ last)) more in
    let element = length-append (start_steps states needed name) (within ++ last) in
    let ending = length-append within last in
    omega arith

pub steps_alike : (h k : List Change) (root : Root) → steps_of h root ≡ steps_of k root
steps_alike h k root = counted (program h).states (first_set (program h).firsts) [] (root_content root) ∙ sym (counted (program k).states (first_set (program k).firsts) [] (root_content root))

pub steps_few : (h : List Change) (root : Root) (events : List Event) (n : ℕ) → events ≡ events_of root → length events ≤ n → steps_of h root ≤ 7 * n
steps_few h root events n e few =
    let same = ap length (tree-steps (program h) root) in
    let each = events-few (program h).states (ground (program h)) (events_of root) in
    let here : length (events_of root) ≤ n = subst (λ (es : List Event). length es ≤ n) e few in
    omega arith
