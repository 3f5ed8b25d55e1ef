use Rattle.std.proofs.Common.{sym, subst}
use Rattle.px_runner.specs.Operands.{IsLabel}
use Rattle.px_runner.proofs.Made.{keeps_on, holds_on, is_open_on, err_on}
use Rattle.px_runner.proofs.Raised.{close_ok}
use Rattle.px_runner.proofs.raise.close.Goals as goal

pub give-requires-clause-frame : goal.give-requires-clause-frame
give-requires-clause-frame g c =
    let child = c.requires.child in
    let one = c.in_ok-values.ensures.ok in
    let two = c.in_ok-set.ensures.ok child.0.gathered _ (holds_on one.advances.keeps child.1.gathered) one.holds in
    (c.requires.parent.0, is_open_on (keeps_on one.advances.keeps two.advances.keeps) c.requires.parent.1)

pub give-requires-clause-set : goal.give-requires-clause-set
give-requires-clause-set g c =
    let child = c.requires.child in
    let one = c.in_ok-values.ensures.ok in
    let two = c.in_ok-set.ensures.ok child.0.gathered _ (holds_on one.advances.keeps child.1.gathered) one.holds in
    (_, two.holds)

pub give-requires-clause-label : goal.give-requires-clause-label
give-requires-clause-label g c =
    let child = c.requires.child in
    let one = c.in_ok-values.ensures.ok in
    let two = c.in_ok-set.ensures.ok child.0.gathered _ (holds_on one.advances.keeps child.1.gathered) one.holds in
    let is = is_open_on (keeps_on one.advances.keeps two.advances.keeps) child.1 in
    subst (λ l. IsLabel (g.M.Memo.automata c.add.new.memo).states l) (sym is.label) is.known

pub returns-clause-ok : goal.returns-clause-ok
returns-clause-ok g c =
    close_ok g.M.Memo.automata g.M.Memo.stands_for g.M.Memo.tells c.args.memo.now c.text_values.new.memo c.add.new.memo c.give.new.memo c.give.result
    c.args.child.now c.args.parent.now c.give.new.frame c.in_ok-values.values c.in_ok-set.set c.args.text.now
    c.in_ok-values.ensures.ok c.in_ok-set.ensures.ok c.give.ensures.ok

pub returns-clause-err : goal.returns-clause-err
returns-clause-err g c =
    let child = c.requires.child in
    let one = c.in_ok-values.ensures.ok in
    let two = c.in_ok-set.ensures.ok child.0.gathered _ (holds_on one.advances.keeps child.1.gathered) one.holds in
    err_on g.M.Memo.automata g.M.Memo.stands_for c.args.memo.now c.add.new.memo c.give.new.memo c.give.result
    (keeps_on one.advances.keeps two.advances.keeps) c.give.ensures.err
