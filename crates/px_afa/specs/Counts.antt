-- How many nodes a document has.
use Rattle.std.specs.Prelude.{ℕ, ◌+◌}
use Rattle.px_afa.specs.Contents.{Content, Empty, Leaf, Element}

abbrev pub elements : Content → ℕ
elements Empty = 0
elements (Leaf name value rest) = elements rest
elements (Element name inside rest) = elements inside + elements rest + 1

-- attributes and texts
abbrev pub leaves : Content → ℕ
leaves Empty = 0
leaves (Leaf name value rest) = leaves rest + 1
leaves (Element name inside rest) = leaves inside + leaves rest
