use Rattle.std.proofs.Common.{ap}
use Rattle.px_runner.specs.Events.{Opened}
use Rattle.px_runner.proofs.Fed.{tree-opened, tree-steps}
use Rattle.px_runner.proofs.laws.events_follow_content.Goals as goal

pub returns : goal.returns
returns c = record {
  gathered = λ automata root. ap (λ (opened : Opened). opened.innermost.gathered) (tree-opened automata root);
  closed = λ automata root. ap (λ (opened : Opened). opened.outer) (tree-opened automata root);
  steps = tree-steps;
}
