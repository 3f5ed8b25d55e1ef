-- What is written and the groups that are left are all groups.
use Rattle.std.proofs.Common.{◌≡◌, ◌*◌, ◌-◌, ◌++◌}
use Rattle.px_feed.specs.Generator.{after, groups}
use Rattle.px_feed.proofs.generator.write_groups.Given as goal

abbrev pub invariant-loop : goal.invariant-loop
invariant-loop l = record {
  text : l.out.items ++ groups (4 - l.counter) l.draws.state ≡ l.initial.out.items ++ groups 4 l.initial.draws.state;
  state : l.draws.state ≡ after (4 * l.counter) l.initial.draws.state;
}
