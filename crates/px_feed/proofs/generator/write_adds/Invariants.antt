-- What is written and the adds that are left are all adds.
use Rattle.std.proofs.Common.{◌≡◌, ◌-◌, ◌++◌}
use Rattle.px_feed.specs.Generator.{adds, after_adds}
use Rattle.px_feed.proofs.generator.write_adds.Given as goal

abbrev pub invariant-loop : goal.invariant-loop
invariant-loop l = record {
  text : l.out.items ++ adds (l.filters - l.counter) l.draws.state ≡ l.initial.out.items ++ adds l.filters l.initial.draws.state;
  state : after_adds (l.filters - l.counter) l.draws.state ≡ after_adds l.filters l.initial.draws.state;
}
