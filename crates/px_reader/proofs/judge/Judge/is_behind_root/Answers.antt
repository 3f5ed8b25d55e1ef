-- The root is closed where the machine stands behind it.
use Rattle.std.proofs.Common.{[], ◌∙◌, sym}
use Rattle.px_reader.specs.Progressing.{progress}
use Rattle.px_reader.proofs.Closing.{closed_tree, open_no_tree}
use Rattle.px_reader.proofs.judge.Judge.is_behind_root.Goals as goal

pub returns-clause-closed : goal.returns-clause-closed
returns-clause-closed c = λ is. closed_tree (progress c.args.self.now) (sym (c.is_behind_root.ensures []) ∙ is)

pub returns-clause-open : goal.returns-clause-open
returns-clause-open c = λ is. open_no_tree (progress c.args.self.now) (sym (c.is_behind_root.ensures []) ∙ is)
