-- What is written and the documents that are left are all documents.
use Rattle.std.proofs.Common.{◌≡◌, ◌+◌, ◌-◌, ◌++◌}
use Rattle.px_feed.specs.Generator.{documents}
use Rattle.px_feed.proofs.generator.write_documents.Given as goal

abbrev pub invariant-loop-before : goal.invariant-loop-before
invariant-loop-before l =
    l.out.items ++ documents l.filters (l.count - l.before) (l.before + 1) l.draws.state ≡ l.initial.out.items ++ documents l.filters l.count 1 l.initial.draws.state
