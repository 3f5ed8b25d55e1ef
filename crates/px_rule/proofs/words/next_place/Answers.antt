use Rattle.std.proofs.Common.{◌∙◌, sym}
use Rattle.px_rule.specs.Words.{key_of}
use Rattle.px_rule.proofs.Paths.{next_node, first_node, next_step, first_step, shows_node, shows_step}
use Rattle.px_rule.proofs.words.next_place.Goals as goal

pub returns-then-next-node_places-clause-next : goal.returns-then-next-node_places-clause-next
returns-then-next-node_places-clause-next c i here =
    first_node c.args.shape.now (key_of c.args.word) i c.args.place c.requires.shape here (shows_node c.args.word c.if-word-eq1.true) (c.if-next-node_places.true ∙ c.node_places.ensures.number)

pub returns-then-word-eq1-clause-next : goal.returns-then-word-eq1-clause-next
returns-then-word-eq1-clause-next c i here =
    next_node c.args.shape.now (key_of c.args.word) i c.args.place c.requires.shape here (shows_node c.args.word c.if-word-eq1.true) (λ e. c.if-next-node_places.false (e ∙ sym c.node_places.ensures.number))

pub returns-then-next-places-clause-next : goal.returns-then-next-places-clause-next
returns-then-next-places-clause-next c i here =
    c.node_places-then-next-places.ensures.number
    ∙ first_step c.args.shape.now (key_of c.args.word) i c.args.place c.requires.shape here (shows_step c.args.word c.if-word-eq1.false) (c.if-next-places.true ∙ c.bank_places-places.ensures.number)

pub returns-clause-next : goal.returns-clause-next
returns-clause-next c i here =
    next_step c.args.shape.now (key_of c.args.word) i c.args.place c.requires.shape here (shows_step c.args.word c.if-word-eq1.false) (λ e. c.if-next-places.false (e ∙ sym c.bank_places-places.ensures.number))
