-- The add of the kind that was drawn.
use Rattle.std.proofs.Common.{◌≡◌, arith}
use Rattle.px_feed.proofs.Generating.{add_is, after_add_is, appended, stands}
use Rattle.px_feed.proofs.generator.write_add.Goals as goal

pub returns-in-0-clause-text : goal.returns-in-0-clause-text
returns-in-0-clause-text c =
    appended _ _ _ _ _ (add_is 0 _ _ _ _ _ c.in-0.is c.draw-kind.ensures.given c.draw-kind.ensures.state c.digit-element.ensures.given c.digit-element.ensures.state) c.write_attribute_add.ensures.text

pub returns-in-0-clause-state : goal.returns-in-0-clause-state
returns-in-0-clause-state c =
    stands _ _ _ _ (after_add_is 0 _ c.digit-element.result _ _ _ c.in-0.is c.draw-kind.ensures.given c.draw-kind.ensures.state c.digit-element.ensures.state) c.write_attribute_add.ensures.state

pub returns-in-1-clause-text : goal.returns-in-1-clause-text
returns-in-1-clause-text c =
    appended _ _ _ _ _ (add_is 1 _ _ _ _ _ c.in-1.is c.draw-kind.ensures.given c.draw-kind.ensures.state c.digit-element.ensures.given c.digit-element.ensures.state) c.write_child_add.ensures.text

pub returns-in-1-clause-state : goal.returns-in-1-clause-state
returns-in-1-clause-state c =
    stands _ _ _ _ (after_add_is 1 _ c.digit-element.result _ _ _ c.in-1.is c.draw-kind.ensures.given c.draw-kind.ensures.state c.digit-element.ensures.state) c.write_child_add.ensures.state

pub returns-in-2-clause-text : goal.returns-in-2-clause-text
returns-in-2-clause-text c =
    appended _ _ _ _ _ (add_is 2 _ _ _ _ _ c.in-2.is c.draw-kind.ensures.given c.draw-kind.ensures.state c.digit-element.ensures.given c.digit-element.ensures.state) c.write_absence_add.ensures.text

pub returns-in-2-clause-state : goal.returns-in-2-clause-state
returns-in-2-clause-state c =
    stands _ _ _ _ (after_add_is 2 _ c.digit-element.result _ _ _ c.in-2.is c.draw-kind.ensures.given c.draw-kind.ensures.state c.digit-element.ensures.state) c.write_absence_add.ensures.state

pub returns-in_default-clause-text : goal.returns-in_default-clause-text
returns-in_default-clause-text c =
    let is : c.draw-kind.result ≡ 3 = omega (arith, c.draw-kind.ensures.below) in
    appended _ _ _ _ _ (add_is 3 _ _ _ _ _ is c.draw-kind.ensures.given c.draw-kind.ensures.state c.digit-element.ensures.given c.digit-element.ensures.state) c.write_choice_add.ensures.text

pub returns-in_default-clause-state : goal.returns-in_default-clause-state
returns-in_default-clause-state c =
    let is : c.draw-kind.result ≡ 3 = omega (arith, c.draw-kind.ensures.below) in
    stands _ _ _ _ (after_add_is 3 _ c.digit-element.result _ _ _ is c.draw-kind.ensures.given c.draw-kind.ensures.state c.digit-element.ensures.state) c.write_choice_add.ensures.state
