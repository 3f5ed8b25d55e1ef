use Rattle.std.proofs.Common.{sym}
use Rattle.px_runner.proofs.Remembered.{fact_is}
use Rattle.px_runner.proofs.private_memo.PrivateMemo.remember.Goals as goal

pub add_fact-requires : goal.add_fact-requires
add_fact-requires c =
    let fact = c.requires.fact in
    record {
      fact =
          fact_is c.args.self.now.automata.states c.args.self.now.sets c.args.op c.args.a.now c.args.b.now c.args.answer.now c.in-Some-Some-Numbered.a c.in-Some-Some-Numbered.b c.in-Some-Some-Numbered.n
          fact.0 fact.1 (sym c.in-Some-Some-Numbered.ensures.number) (sym c.in-Some-Some-Numbered.ensures'.number) c.in-Some-Some-Numbered.is-2 fact.2 fact.3;
    }
