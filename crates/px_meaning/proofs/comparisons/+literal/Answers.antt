use Rattle.std.proofs.Common.{List, ℕ, ◌≢◌, ◌++◌}
use Rattle.px_text.specs.Nodes.{characters}
use Rattle.px_tree.specs.Trees.{nodes}
use Rattle.px_meaning.proofs.Texts.{characters_at, characters_more, begins_longer, begins_no_longer}
use Rattle.px_meaning.proofs.comparisons.+literal.Goals as goal

pub behind_texts-returns-in_err-rest : goal.behind_texts-returns-in_err-rest
behind_texts-returns-in_err-rest t c =
    let whole = characters_at c.args.children.now c.loop-child.child-index c.child-item.result c.loop-child-test.true c.child-item.is in
    let no : (rest : List ℕ) → c.args.literal.now ≢ characters (nodes c.args.children.now) ++ rest =
    λ rest. rw whole (begins_no_longer c.args.literal.now _ c.loop-child.rest.now _ _ rest c.loop-child.invariant c.in_err-rest.ensures) in
    rw c.from_residual.ensures no

pub behind_texts-loop-child-preserved : goal.behind_texts-loop-child-preserved
behind_texts-loop-child-preserved t c =
    let more = characters_more c.args.children.now c.loop-child.child-index c.child-item.result c.loop-child-test.true c.child-item.is in
    rw more (begins_longer _ _ _ _ _ c.loop-child.invariant c.in_ok-rest.ensures)
