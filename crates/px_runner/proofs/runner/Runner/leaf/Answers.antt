use Rattle.std.proofs.Common.{◌+◌, [], refl}
use Rattle.px_runner.proofs.Made.{keeps_on, is_open_on, kept_err}
use Rattle.px_runner.proofs.Moves.{leaf_on}
use Rattle.px_runner.proofs.runner.Runner.leaf.Goals as goal

pub returns-in_err-extend_from_slice-clause-err : goal.returns-in_err-extend_from_slice-clause-err
returns-in_err-extend_from_slice-clause-err g c =
    let at = c.requires.at in
    let one = c.in_ok-set.ensures.ok in
    let two = c.in_ok-give.ensures.ok at.0.innermost _ [] (is_open_on one.advances.keeps at.2.inner) one.holds in
    kept_err g.M.Memo.automata g.M.Memo.stands_for c.args.memo.now c.give.new.memo c.from_residual-in_err-extend_from_slice.result
    (keeps_on one.advances.keeps two.1.keeps)

pub returns-clause-ok : goal.returns-clause-ok
returns-clause-ok g c =
    leaf_on g.M.Memo.automata g.M.Memo.stands_for g.M.Memo.tells c.args.memo.now c.text_values.new.memo c.give.new.memo c.args.self.now
    (record { innermost = c.give.new.frame; outer = c.args.self.now.outer; text = c.extend_from_slice.new.self; none = c.args.self.now.none; steps = c.args.self.now.steps + 6 })
    c.in_ok-set.set c.args.label c.args.value.now c.args.said.now
    c.in_ok-set.ensures.ok c.in_ok-give.ensures.ok c.in_ok-give.ensures.begins c.in_ok-extend_from_slice.ensures.items refl refl refl
