-- Labels and classes tell what the states test.
use Rattle.std.proofs.Common.{List}
use Rattle.px_afa.specs.declared.state.State.{State}
use Rattle.px_afa.specs.declared.state.State.TheVariants as state
use Rattle.px_afa.specs.Labels.{names_of}
use Rattle.px_afa.specs.Machine.{IsTold, machine_of}
use Rattle.px_afa.proofs.ToldLabels.{meets-is, of_element-is, names-have}
use Rattle.px_afa.proofs.ToldClasses.{has-values, values-told}

pub told : (states : List State) → IsTold (machine_of states)
told states = record {
  tests = λ n axis asked body at kind. meets-is (names_of states) asked (λ k is. names-have states n (state.Path axis asked body) k at is) kind;
  elements = λ kind. of_element-is (names_of states) kind;
  values = λ n r wanted at text. values-told states n r wanted at text;
  no_paths = λ n axis asked body at text. has-values states n (state.Path axis asked body) at text;
}
