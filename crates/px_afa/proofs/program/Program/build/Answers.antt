use Rattle.std.proofs.Common.{◌∙◌, ◌∷◌, [], refl, ap, subst, arith}
use Rattle.px_afa.specs.Building.{newest}
use Rattle.px_afa.specs.PathKept.{ArePathTables}
use Rattle.px_afa.specs.Sets.{accept}
use Rattle.px_afa.specs.ValueKept.{AreValueTables}
use Rattle.px_afa.proofs.FirstsListed.{listed-sound, listed-few}
use Rattle.px_afa.proofs.program.Program.build.Goals as goal

pub of-requires : goal.of-requires
of-requires c =
    let sound = listed-sound c.in_ok-states.states.items c.in_ok-states.firsts.items c.args.live.now c.in_ok-states.ensures.made c.requires.live in
    record { few = listed-few c.in_ok-states.states.items c.deref.result.now c.in_ok-states.firsts.items 500_000 c.deref.ensures.value sound (omega arith) }

pub of-requires-2 : goal.of-requires-2
of-requires-2 c =
    let sound = listed-sound c.in_ok-states.states.items c.in_ok-states.firsts.items c.args.live.now c.in_ok-states.ensures.made c.requires.live in
    record { few = listed-few c.in_ok-states.states.items c.deref-2.result.now c.in_ok-states.firsts.items 500_000 c.deref-2.ensures.value sound (omega arith) }

pub ids_by_first-requires : goal.ids_by_first-requires
ids_by_first-requires c =
    let sound = listed-sound c.in_ok-states.states.items c.in_ok-states.firsts.items c.args.live.now c.in_ok-states.ensures.made c.requires.live in
    record { paths = rw (c.deref-3.ensures.value, c.deref-4.ensures.value) sound.paths }

pub invariant_of-result : goal.invariant_of-result
invariant_of-result c =
    let sound = listed-sound c.in_ok-states.states.items c.in_ok-states.firsts.items c.args.live.now c.in_ok-states.ensures.made c.requires.live in
    record {
      few = listed-few c.in_ok-states.states.items c.in_ok-states.states.items c.in_ok-states.firsts.items 500_000 refl sound (omega arith);
      sound = sound;
      paths = subst (λ states. ArePathTables c.in_ok-paths.paths (newest states)) c.deref.ensures.value c.in_ok-paths.ensures.all;
      values = subst (λ states. AreValueTables c.in_ok-values.values (newest states)) c.deref-2.ensures.value c.in_ok-values.ensures.all;
      ids = λ state. c.in_ok-ids.ensures.ids state ∙ ap (λ firsts. accept firsts (state ∷ [])) c.deref-4.ensures.value;
    }
