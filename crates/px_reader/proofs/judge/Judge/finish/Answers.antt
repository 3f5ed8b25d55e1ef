-- The document has ended: with its tree, or too early.
use Rattle.std.proofs.Common.{◌≡◌, [], ◌∙◌, true, false, sym}
use Rattle.px_reader.specs.Progressing.{state_apart}
use Rattle.px_reader.specs.States.{is_after}
use Rattle.px_reader.specs.Progressing.{progress}
use Rattle.px_reader.proofs.Feeding.{still_gives, all_give, all_tree, all_truncated}
use Rattle.px_reader.proofs.Stopping.{all_stops}
use Rattle.px_reader.proofs.judge.Judge.finish.Goals as goal

pub returns-in_err-line-clause-gives : goal.returns-in_err-line-clause-gives
returns-in_err-line-clause-gives c = λ bytes given h. still_gives (progress c.args.self.now) bytes given c.args.out.now.items c.take_last.new.out.items h c.in_err-line.ensures.kept

pub returns-then-not-is_behind_root-clause-gives : goal.returns-then-not-is_behind_root-clause-gives
returns-then-not-is_behind_root-clause-gives c = λ bytes given h.
    all_give (progress c.args.self.now) (state_apart c.take_last.new.self.scanner) c.in_ok-line.line bytes given c.args.out.now.items c.take_last.new.out.items h (c.in_ok-line.ensures.reads bytes given h)

pub returns-then-not-is_behind_root-clause-fault : goal.returns-then-not-is_behind_root-clause-fault
returns-then-not-is_behind_root-clause-fault c = λ bytes given h.
    let early : is_after (state_apart c.take_last.new.self.scanner) ≡ false = sym (c.is_behind_root.ensures []) ∙ c.if-not-is_behind_root.true in
    all_truncated (state_apart c.take_last.new.self.scanner) c.in_ok-line.line bytes given c.args.out.now.items c.take_last.new.out.items (c.in_ok-line.ensures.reads bytes given h) early

pub returns-clause-tree : goal.returns-clause-tree
returns-clause-tree c = λ bytes given h.
    let closed : is_after (state_apart c.take_last.new.self.scanner) ≡ true = sym (c.is_behind_root.ensures []) ∙ c.if-not-is_behind_root.false in
    all_tree (state_apart c.take_last.new.self.scanner) c.in_ok-line.line bytes given c.args.out.now.items c.take_last.new.out.items (c.in_ok-line.ensures.reads bytes given h) closed

pub returns-clause-gives : goal.returns-clause-gives
returns-clause-gives c = λ bytes given h.
    all_give (progress c.args.self.now) (state_apart c.take_last.new.self.scanner) c.in_ok-line.line bytes given c.args.out.now.items c.take_last.new.out.items h (c.in_ok-line.ensures.reads bytes given h)

pub returns-then-not-is_behind_root-clause-stops : goal.returns-then-not-is_behind_root-clause-stops
returns-then-not-is_behind_root-clause-stops c = λ bytes given h.
    all_stops (state_apart c.take_last.new.self.scanner) c.in_ok-line.line bytes given c.args.out.now.items c.take_last.new.out.items (c.in_ok-line.ensures.reads bytes given h)
