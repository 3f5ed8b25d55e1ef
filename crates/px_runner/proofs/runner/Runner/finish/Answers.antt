use Rattle.px_runner.proofs.Taken.{finished, matched}
use Rattle.px_runner.proofs.runner.Runner.finish.Goals as goal

pub returns-clause-accepted : goal.returns-clause-accepted
returns-clause-accepted g c =
    finished g.M.Memo.automata g.M.Memo.stands_for g.M.Memo.tells c.args.memo.now c.set_of.new.self c.args.self c.program.result.now c.accept.result c.in_ok-gathered.gathered
    c.program.ensures.program c.in_ok-gathered.ensures.ok.keeps c.in_ok-gathered.ensures.set c.accept.ensures.ids

pub returns-clause-matches : goal.returns-clause-matches
returns-clause-matches g c =
    matched g.M.Memo.automata g.M.Memo.stands_for g.M.Memo.tells c.args.memo.now c.args.self c.accept.result
    (finished g.M.Memo.automata g.M.Memo.stands_for g.M.Memo.tells c.args.memo.now c.set_of.new.self c.args.self c.program.result.now c.accept.result c.in_ok-gathered.gathered
    c.program.ensures.program c.in_ok-gathered.ensures.ok.keeps c.in_ok-gathered.ensures.set c.accept.ensures.ids)
