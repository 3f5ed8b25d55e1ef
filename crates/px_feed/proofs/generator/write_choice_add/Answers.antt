-- The second digit is drawn behind the first.
use Rattle.px_feed.proofs.Generating.{choice_is, extended}
use Rattle.px_feed.proofs.generator.write_choice_add.Goals as goal

pub returns-clause-text : goal.returns-clause-text
returns-clause-text c =
    extended _ _ _ _ _ c.extend_from_slice.ensures.items
    (choice_is c.args.element c.digit-value.result c.digit-below.result c.args.draws.now.state c.digit-value.new.self.state c.digit-value.ensures.given
    c.digit-value.ensures.state c.digit-below.ensures.given)
