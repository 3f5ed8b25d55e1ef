use Rattle.std.proofs.Common.{◌+◌, drop, ◌∙◌, ap, refl}
use Rattle.std.proofs.lemmas.List.{take_rest}
use Rattle.px_runner.proofs.Moves.{end_on}
use Rattle.px_runner.proofs.runner.Runner.end.Goals as goal

pub returns-clause-ok : goal.returns-clause-ok
returns-clause-ok g c =
    end_on g.M.Memo.automata g.M.Memo.stands_for g.M.Memo.tells c.args.memo.now c.close.new.memo c.args.self.now
    (record { innermost = c.close.new.parent; outer = c.pop.new.self; text = c.args.self.now.text; none = c.args.self.now.none; steps = c.args.self.now.steps + 7 })
    c.in-Some.parent _
    c.in_ok-close.ensures.ok (take_rest c.deref.result.now c.args.self.now.innermost.begins ∙ ap (drop c.args.self.now.innermost.begins) c.deref.ensures.value)
    c.in_ok-close.ensures.begins c.in-Some.ensures.items refl refl refl
