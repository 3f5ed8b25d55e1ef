use Rattle.std.proofs.Common.{refl, sym, ap, ◌∙◌, ◌++◌, subst}
use Rattle.px_runner.specs.Operands.{AreBelow}
use Rattle.px_machine.proofs.Numbered.{from-slice}
use Rattle.px_machine.proofs.Shelved.{members-more, rising-below}
use Rattle.px_machine.proofs.sets.members_of.Goals as goal
use Rattle.px_runner.proofs.Below.{below-append}

pub at-requires : goal.at-requires
at-requires c = record { there = from-slice _ c.args.numbers.now c.loop-n.n-index c.requires.below c.loop-n-test.true }

pub loop-n-preserved : goal.loop-n-preserved
loop-n-preserved c =
    let is = c.in_ok-extend_from_slice.ensures.items ∙ ap (λ l. c.loop-n.all.items ++ l) c.at.ensures.set in
    record {
      members = λ k. members-more c.args.sets.now.lists c.args.numbers.now c.loop-n.all.items c.extend_from_slice.new.self.items c.loop-n.n-index _ k c.loop-n-test.true refl (c.loop-n.invariant.members k) is;
      small = subst (λ l. AreBelow 1048576 l) (sym is) (below-append 1048576 c.loop-n.all.items _ c.loop-n.invariant.small (rising-below _ c.at.ensures.rising));
    }
