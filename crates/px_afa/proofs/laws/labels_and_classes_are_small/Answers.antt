use Rattle.std.proofs.Common.{arith}
use Rattle.px_afa.specs.Labels.{names_of}
use Rattle.px_afa.proofs.Sizes.{label-few, names-few, text_class-few, number_class-few}
use Rattle.px_afa.proofs.laws.labels_and_classes_are_small.Goals as goal

pub returns-clause-labels : goal.returns-clause-labels
returns-clause-labels c = λ states kind. let label = label-few (names_of states) kind in let names = names-few states in omega arith

pub returns-clause-texts : goal.returns-clause-texts
returns-clause-texts c = text_class-few

pub returns-clause-numbers : goal.returns-clause-numbers
returns-clause-numbers c = number_class-few
