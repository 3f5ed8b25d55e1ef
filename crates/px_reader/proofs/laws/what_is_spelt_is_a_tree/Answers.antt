-- What is spelt is a tree.
use Rattle.px_reader.proofs.Spelt.{spelt_tree}
use Rattle.px_reader.proofs.laws.what_is_spelt_is_a_tree.Goals as goal

pub returns : goal.returns
returns c = spelt_tree
