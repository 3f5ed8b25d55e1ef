use Rattle.std.proofs.Common.{◌≡◌, ◌+◌, length, map, drop}
use Rattle.std.specs.List.{list_any}
use Rattle.px_text.specs.Nodes.{AtAttribute, members, all_below}
use Rattle.px_tree.specs.Trees.{nodes}
use Rattle.px_xpath.specs.Meaning as meaning
use Rattle.px_xpath.specs.Views.{condition, conditions, ways}
use Rattle.px_meaning.specs.Places.{place, place_of_node, element_place}
use Rattle.px_meaning.specs.Ends.{passes}
use Rattle.px_meaning.proofs.Weights.{way_weight, condition_weight, conditions_weight, nodes_weight, place_weight, leg_weight}
use Rattle.px_meaning.proofs.+holds.Given as goal

abbrev pub decreases-conditions::all_hold : goal.decreases-conditions::all_hold
decreases-conditions::all_hold l = conditions_weight (conditions l.conds.now) + place_weight (place l.at)

abbrev pub decreases-conditions::condition_holds : goal.decreases-conditions::condition_holds
decreases-conditions::condition_holds l = condition_weight (condition l.cond.now) + place_weight (place l.at)

abbrev pub decreases-conditions::some_holds : goal.decreases-conditions::some_holds
decreases-conditions::some_holds l = conditions_weight (conditions l.conds.now) + place_weight (place l.at)

abbrev pub decreases-paths::attributes_pass : goal.decreases-paths::attributes_pass
decreases-paths::attributes_pass l = leg_weight l.step.now l.rest.now + length l.attributes.now + length l.attributes.now

abbrev pub decreases-paths::below_pass : goal.decreases-paths::below_pass
decreases-paths::below_pass l = leg_weight l.step.now l.rest.now + nodes_weight (nodes l.children.now)

abbrev pub decreases-paths::children_pass : goal.decreases-paths::children_pass
decreases-paths::children_pass l = leg_weight l.step.now l.rest.now + nodes_weight (nodes l.children.now)

abbrev pub decreases-paths::element_below : goal.decreases-paths::element_below
decreases-paths::element_below l = leg_weight l.step.now l.rest.now + place_weight (element_place l.element.now) + 1

abbrev pub decreases-paths::node_below : goal.decreases-paths::node_below
decreases-paths::node_below l = leg_weight l.step.now l.rest.now + place_weight (place_of_node l.node.now) + 2

abbrev pub decreases-paths::passes : goal.decreases-paths::passes
decreases-paths::passes l = leg_weight l.step.now l.rest.now + place_weight (place l.at)

abbrev pub decreases-paths::steps_hold : goal.decreases-paths::steps_hold
decreases-paths::steps_hold l = way_weight (ways l.steps.now) + place_weight (place l.from)

abbrev pub invariant-conditions::all_hold-loop-cond : goal.invariant-conditions::all_hold-loop-cond
invariant-conditions::all_hold-loop-cond l =
    meaning.all_hold (conditions l.conds) (place l.at) ≡ meaning.all_hold (conditions (drop l.cond-index l.conds)) (place l.at)

abbrev pub invariant-conditions::some_holds-loop-cond :
    goal.invariant-conditions::some_holds-loop-cond
invariant-conditions::some_holds-loop-cond l =
    meaning.some_holds (conditions l.conds) (place l.at) ≡ meaning.some_holds (conditions (drop l.cond-index l.conds)) (place l.at)

abbrev pub invariant-paths::attributes_pass-loop-attribute :
    goal.invariant-paths::attributes_pass-loop-attribute
invariant-paths::attributes_pass-loop-attribute l =
    let test = passes l.step l.rest l.end in
    list_any test (map AtAttribute l.attributes) ≡ list_any test (map AtAttribute (drop l.attribute-index l.attributes))

abbrev pub invariant-paths::below_pass-loop-child : goal.invariant-paths::below_pass-loop-child
invariant-paths::below_pass-loop-child l =
    let test = passes l.step l.rest l.end in
    list_any test (all_below (nodes l.children)) ≡ list_any test (all_below (nodes (drop l.child-index l.children)))

abbrev pub invariant-paths::children_pass-loop-child :
    goal.invariant-paths::children_pass-loop-child
invariant-paths::children_pass-loop-child l =
    let test = passes l.step l.rest l.end in
    list_any test (members (nodes l.children)) ≡ list_any test (members (nodes (drop l.child-index l.children)))
