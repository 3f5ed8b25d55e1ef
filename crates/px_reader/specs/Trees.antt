-- Which trees documents have.
use Rattle.std.specs.Prelude.{◌<◌, length, IsTrue}
use Rattle.px_text.specs.Nodes.{Nodes, NoNodes, TextThen, ElementThen, Root}
use Rattle.px_reader.specs.Spelling.{names_differ}

-- The names of the attributes of an element differ, and no text is empty. Two texts may stand side by side.
abbrev pub AreNodes : Nodes → Type 0
AreNodes NoNodes = Unit {0}
AreNodes (TextThen text behind) = (0 < length text) × AreNodes behind
AreNodes (ElementThen name attributes children behind) = IsTrue (names_differ attributes) × AreNodes children × AreNodes behind

abbrev pub IsTree : Root → Type 0
IsTree root = IsTrue (names_differ root.attributes) × AreNodes root.children
