-- What the scanner knows of the lines.
use Rattle.std.proofs.Common.{ℕ, List, sym, ◌∙◌, subst}
use Rattle.px_text.specs.Nodes.{Root}
use Rattle.px_reader.specs.Lines.{lines_of}
use Rattle.px_reader.specs.Spelling.{Spells}
use Rattle.px_reader.specs.Verdicts.{HasVerdict, IsTree}
use Rattle.px_reader.proofs.Recording.{closed_tree, open_none}
use Rattle.px_reader.proofs.recorder.Recorder.is_closed.Goals as goal

pub returns-clause-closed : goal.returns-clause-closed
returns-clause-closed c = λ is.
    let old = c.self.inside in
    let P : List ℕ → Type 0 = λ bytes. (root : Root) × HasVerdict bytes (IsTree root) in
    subst P c.self.view_is (closed_tree old.scanner old.bytes.items old.events c.self.invariant.records (sym (c.is_behind_root.ensures old.bytes.items) ∙ is))

pub returns-clause-still_open : goal.returns-clause-still_open
returns-clause-still_open c = λ is root spells.
    let old = c.self.inside in
    let P : List ℕ → Type 0 = λ bytes. Spells (lines_of bytes) root in
    open_none old.scanner old.bytes.items old.events c.self.invariant.records (sym (c.is_behind_root.ensures old.bytes.items) ∙ is) root (subst P (sym c.self.view_is) spells)
