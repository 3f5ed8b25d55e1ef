use Rattle.std.proofs.Common.{subst}
use Rattle.px_afa.specs.Accepting.{ArePaths}
use Rattle.px_afa.specs.Building.{Automata}
use Rattle.px_runner.proofs.Moves.{ground_on}
use Rattle.px_runner.proofs.runner.ground_frame.Goals as goal

pub returns-clause-open : goal.returns-clause-open
returns-clause-open g c =
    ground_on g.M.Memo.automata g.M.Memo.stands_for g.M.Memo.tells c.args.memo.now c.firsts.new.self c.hold.new.self c.in_ok-needed.needed c.in_ok-gathered.gathered c.args.none.now
    c.requires.none (subst (λ (a : Automata). ArePaths a.states a.firsts) c.program.ensures.program c.sound.ensures.sound.paths)
    c.in_ok-needed.ensures.ok c.in_ok-needed.ensures.stands c.in_ok-gathered.ensures.ok c.in_ok-gathered.ensures.stands
