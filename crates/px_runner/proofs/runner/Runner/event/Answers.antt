use Rattle.std.proofs.Common.{arith}
use Rattle.px_reader.specs.Happenings.{event_of}
use Rattle.px_runner.specs.Events.{ground}
use Rattle.px_runner.proofs.Taken.{events-few, run_on}
use Rattle.px_runner.proofs.runner.Runner.event.Goals as goal

pub take-requires : goal.take-requires
take-requires g c =
    let begun = c.requires.begun in
    let few = events-few (g.M.Memo.automata c.args.memo.now).states (ground (g.M.Memo.automata c.args.memo.now)) begun.0 in
    let short = begun.2 in
    record { at = (_, _, begun.1.at, omega arith) }

pub returns-clause-ok : goal.returns-clause-ok
returns-clause-ok g c =
    run_on g.M.Memo.automata g.M.Memo.stands_for g.M.Memo.tells c.args.memo.now c.take.new.memo c.args.self.now c.take.new.self c.take.result (event_of c.args.next)
    c.take.ensures.ok
