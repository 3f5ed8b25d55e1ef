-- The next piece is read, or the source has no more.
use Rattle.std.proofs.Common.{◌++◌, ◌≤◌, Some, ap, sym, subst, arith}
use Rattle.px_io.specs.Flows.{IsSpent}
use Rattle.px_feed.specs.declared.ending.Ending.TheVariants as ending
use Rattle.px_feed.specs.Items.{most_bytes}
use Rattle.px_feed.specs.Progressing.{progress}
use Rattle.px_feed.proofs.Takings.{read_nothing, unread_all, whole_items, answers_stop}
use Rattle.px_feed.proofs.intake.Intake.refill.Goals as goal

pub returns-in-Got-clause-refills : goal.returns-in-Got-clause-refills
returns-in-Got-clause-refills g c = λ bytes given j going. let n = c.in-Got.ensures.next in
    (_, n.2, record { done = bytes; bytes_are = ap (λ bs. bytes ++ bs) (unread_all _ _); joined = j; going = going })

pub returns-in-End-clause-refills : goal.returns-in-End-clause-refills
returns-in-End-clause-refills g c = λ bytes given j going.
    let n = c.in-End.ensures.next in
    let after = g.S.Source.left c.read_into.new.source in
    let answer = c.finish.ensures.ends bytes given after j (subst IsSpent (sym n.1) n.0) in
    read_nothing (Some c.finish.result) (progress c.finish.new.self) (g.S.Source.left c.args.source.now) after bytes given n.1 answer

pub returns-in-Failed-clause-refills : goal.returns-in-Failed-clause-refills
returns-in-Failed-clause-refills g c = λ bytes given j going.
    let old = c.args.self.now in
    let w = old.joiner.within in
    let fits : old.joiner.cutter.extent.bytes ≤ most_bytes = omega arith in
    let whole = whole_items _ _ _ old.joiner.kept.items old.joiner.begun bytes given j fits in
    let after = g.S.Source.left c.read_into.new.source in
    let answer = answers_stop ending.ReadFault c.stop.result (progress c.stop.new.self) after bytes given c.stop.ensures.answer whole in
    read_nothing (Some c.stop.result) (progress c.stop.new.self) (g.S.Source.left c.args.source.now) after bytes given c.in-Failed.ensures.next answer
