-- What a document of a feed is matched with.
use Rattle.std.specs.Prelude.{ℕ, List, map, filter}
use Rattle.px_text.specs.Nodes.{Root}
use Rattle.px_afa.specs.Accepting.{accepted}
use Rattle.px_afa.specs.Building.{Automata}
use Rattle.px_afa.specs.Contents.{root_content}
use Rattle.px_afa.specs.Machine.{machine_of}
use Rattle.px_xpath.specs.Histories.{Subscription}
use Rattle.px_xpath.specs.Meaning.{holds}

-- the ids of the filters that hold of the tree
abbrev pub ids_matching : List Subscription → Root → List ℕ
ids_matching live root = map (λ s. s.id) (filter (λ s. holds s.filter root) live)

-- the ids that the machine of a program accepts of the tree
abbrev pub ids_accepted : Automata → Root → List ℕ
ids_accepted program root = accepted (machine_of program.states) program.firsts (root_content root)
