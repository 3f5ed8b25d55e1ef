-- So many bytes at least were read, and what they give is known.
use Rattle.std.proofs.Common.{◌≡◌, ◌≤◌, ◌++◌, List, ℕ}
use Rattle.px_io.specs.Flows.{TakesFrom}
use Rattle.px_feed.specs.declared.ending.Ending.{Ending}
use Rattle.px_feed.specs.Items.{Item}
use Rattle.px_feed.specs.Progressing.{progress}
use Rattle.px_feed.specs.Taking.{HasTaken, HasEnded, held}
use Rattle.px_feed.proofs.intake.Intake.next.Given as goal

abbrev pub invariant-loop : goal.invariant-loop
invariant-loop g l = record {
  read : (bytes : List ℕ) (given : List Item) → HasTaken (progress l.initial.self) (g.S.Source.left l.initial.source) bytes given →
      (more : List ℕ) × TakesFrom (g.S.Source.left l.initial.source) more (g.S.Source.left l.source) × HasTaken (progress l.self) (g.S.Source.left l.source) (bytes ++ more) given;
  going : l.self.ending ≡ l.initial.self.ending;
  stays : (ending : Ending) → HasEnded (progress l.initial.self) ending → g.S.Source.left l.source ≡ g.S.Source.left l.initial.source;
  many : l.counter ≤ held (progress l.self);
  never_falls : g.S.Source.faults l.initial.source ≤ g.S.Source.faults l.source;
}
