use Rattle.std.proofs.Common.{◌<◌, length, refl, sym, ap, subst, arith}
use Rattle.px_afa.specs.Kept.{AreNames}
use Rattle.px_afa.specs.Labels.{names_of}
use Rattle.px_afa.proofs.KnownNames.{names_room}
use Rattle.px_afa.proofs.Newest.{newest_next}
use Rattle.px_afa.proofs.names.Names.of.Goals as goal

pub add-requires : goal.add-requires
add-requires c =
    let room : length c.loop-state.names.are_elements.items < 500_000 = names_room c.loop-state.names c.args.states.now c.loop-state.state-index 500_000 c.loop-state.invariant c.loop-state-test.true c.requires.few in
    record { few = omega (arith, c.loop-state.names.are_elements.ok.0) }

pub loop-state-preserved : goal.loop-state-preserved
loop-state-preserved c =
    subst (AreNames c.add.new.self) (sym (ap names_of (newest_next c.args.states.now c.loop-state.state-index _ c.state-item.result c.loop-state-test.true c.state-item.is refl)))
    (c.in_ok-add.ensures.added _ c.loop-state.invariant)
