use Rattle.std.proofs.Common.{◌∙◌, sym}
use Rattle.px_afa.specs.Labels.{names_of}
use Rattle.px_afa.proofs.PathKeeping.{loosely-elements, loosely-none}
use Rattle.px_afa.proofs.path_tables.PathTables.unguarded_loosely.Goals as goal

pub returns-then-is_element : goal.returns-then-is_element
returns-then-is_element c = record {
  all = λ states are. c.deref.ensures.value ∙ loosely-elements c.args.self.now states c.args.label are (sym c.if-is_element.true ∙ c.is_element.ensures.value (names_of states) are.names);
}

pub returns : goal.returns
returns c = record {
  all = λ states are.
      loosely-none states c.args.label (sym c.if-is_element.false ∙ c.is_element.ensures.value (names_of states) are.names) (sym c.if-is_attribute.false ∙ c.is_attribute.ensures.value (names_of states) are.names);
}
