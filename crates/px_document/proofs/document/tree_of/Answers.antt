-- The events are those of a tree.
use Rattle.px_document.proofs.document.tree_of.Goals as goal

pub build-requires : goal.build-requires
build-requires c = record { of_a_tree = c.requires.of_a_tree }
