use Rattle.std.proofs.Common.{[], ◌∷◌, refl}
use Rattle.px_text.specs.Nodes.{NoNodes, TextThen, ElementThen}
use Rattle.px_rows.proofs.tree.builds_elements_attributes_and_texts.Goals as goal

pub build-requires : goal.build-requires
build-requires g c = record {
  of_a_tree = (
    record {
      name = c.in_ok-of.field-0;
      attributes = record { name = c.in_ok-of-2.field-0; value = c.in_ok-of-3.field-0 } ∷ [];
      children = TextThen c.in_ok-of-4.field-0 (ElementThen c.in_ok-of-5.field-0 [] NoNodes NoNodes);
    },
    refl,
  );
}
