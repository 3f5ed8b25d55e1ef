use Rattle.std.proofs.Common.{refl, sym, ap, subst}
use Rattle.px_afa.specs.Classes.{literals_of}
use Rattle.px_afa.specs.Kept.{AreLiterals}
use Rattle.px_afa.proofs.KnownLiterals.{literals_room}
use Rattle.px_afa.proofs.Newest.{newest_next}
use Rattle.px_afa.proofs.literals.Literals.of.Goals as goal

pub add-requires : goal.add-requires
add-requires c =
    record { few = literals_room c.loop-state.literals c.args.states.now c.loop-state.state-index 500_000 c.loop-state.invariant c.loop-state-test.true c.requires.few }

pub loop-state-preserved : goal.loop-state-preserved
loop-state-preserved c =
    subst (AreLiterals c.add.new.self) (sym (ap literals_of (newest_next c.args.states.now c.loop-state.state-index _ c.state-item.result c.loop-state-test.true c.state-item.is refl)))
    (c.in_ok-add.ensures.added _ c.loop-state.invariant)
