use Rattle.px_runner.proofs.Raised.{given_on}
use Rattle.px_runner.proofs.raise.give.Goals as goal

pub returns-clause-ok : goal.returns-clause-ok
returns-clause-ok g c =
    given_on g.M.Memo.automata g.M.Memo.stands_for g.M.Memo.tells c.args.memo.now c.raise.new.memo c.args.frame.now c.in_ok-gathered.gathered c.args.set.now c.args.label
    c.in_ok-gathered.ensures.ok
