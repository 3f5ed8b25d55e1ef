use Rattle.std.proofs.Common.{◌∷◌, ◌∙◌, ap, arith}
use Rattle.px_tree.proofs.Building.{attributes_front, left_element, left_text, left_end}
use Rattle.px_tree.proofs.from_events.+build.Goals as goal

pub read_element-returns-clause-parts : goal.read_element-returns-clause-parts
read_element-returns-clause-parts t c = λ attributes children rest e.
    let front = attributes_front attributes children rest in
    let parts = c.in_ok-attributes.ensures.parts in
    let inner = c.in_ok-children.ensures.parts children rest (rw e at parts.1 ∙ front.1) in
    (c.in_ok-clone.ensures.cases, rw e at parts.0 ∙ front.0, inner.0, inner.1)

pub read_children-returns-in-Attr-clause-parts : goal.read_children-returns-in-Attr-clause-parts
read_children-returns-in-Attr-clause-parts t c =
    left_end _ _ _ _ _ c.in-Some.ensures.cases.0 c.in-Attr.is c.loop-event.invariant.0

pub read_children-loop-event-preserved-in-Start-1 :
    goal.read_children-loop-event-preserved-in-Start-1
read_children-loop-event-preserved-in-Start-1 t c =
    let starts = c.in-Some.ensures.cases.0 ∙ ap (λ e. e ∷ c.in-Some.rest.now) c.in-Start.is in
    let left = left_element _ c.loop-event.children _ _ _ c.in_ok-element-in-Start.element _ starts c.loop-event.invariant.0 c.in_ok-element-in-Start.ensures.parts in
    (rw c.in_ok-push-in-Start.ensures.ok left, omega (arith, c.in-Some.ensures.cases.1, c.in_ok-element-in-Start.ensures.fewer, c.loop-event.invariant.1))

pub read_children-loop-event-preserved : goal.read_children-loop-event-preserved
read_children-loop-event-preserved t c =
    let says = c.in-Some.ensures.cases.0 ∙ ap (λ e. e ∷ c.in-Some.rest.now) c.in-Text.is in
    let left = left_text _ c.loop-event.children _ _ _ says c.loop-event.invariant.0 in
    (rw (c.in_ok-push-in-Text.ensures.ok, c.in_ok-clone-in-Text.ensures.cases) left, omega (arith, c.in-Some.ensures.cases.1, c.loop-event.invariant.1))
