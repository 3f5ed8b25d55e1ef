use Rattle.std.proofs.Common.{◌∙◌, sym, ap, arith, not, length, ◌<◌, ◌≤◌, get_or, Some, rules}
use Rattle.std.specs.List.{list_all, list_any}
use Rattle.px_text.specs.Sets.{has}
use Rattle.px_afa.specs.Sets.{true_in}
use Rattle.px_step.proofs.Parts.{true_in-at, below-at, part-at, past_parts, parts_within, part_past, some_true, none_false}
use Rattle.px_step.proofs.truth.+truth.Goals as goal
use Rattle.px_afa.proofs.Growing.{parts_below-more}

pub is_true-is_true-requires : goal.is_true-is_true-requires
is_true-is_true-requires t c =
    let below : c.in-Not.part < c.args.n = (below-at c.args.program.now.states c.requires.sound.ordered c.args.n _ (c.state.ensures.it ∙ ap Some c.in-Not.is)).0 in
    let within : c.args.n < length c.args.program.now.states = c.requires.there in
    (omega arith, (c.requires.sound, omega arith))

pub is_true-some_part_is-requires : goal.is_true-some_part_is-requires
is_true-some_part_is-requires t c =
    let below = (below-at c.args.program.now.states c.requires.sound.ordered c.args.n _ (c.state.ensures.it ∙ ap Some c.in-And.is)).0 in
    let within : c.args.n < length c.args.program.now.states = c.requires.there in
    let least : past_parts c.in-And.parts ≤ c.args.n = parts_within c.in-And.parts c.args.n below in
    rw c.as_slice.ensures.same (omega arith, (c.requires.sound, parts_below-more c.in-And.parts c.args.n (length c.args.program.now.states) (omega arith) below))

pub is_true-some_part_is-requires-in-Or : goal.is_true-some_part_is-requires-in-Or
is_true-some_part_is-requires-in-Or t c =
    let below = (below-at c.args.program.now.states c.requires.sound.ordered c.args.n _ (c.state.ensures.it ∙ ap Some c.in-Or.is)).0 in
    let within : c.args.n < length c.args.program.now.states = c.requires.there in
    let least : past_parts c.in-Or.parts ≤ c.args.n = parts_within c.in-Or.parts c.args.n below in
    rw c.as_slice-in-Or.ensures.same (omega arith, (c.requires.sound, parts_below-more c.in-Or.parts c.args.n (length c.args.program.now.states) (omega arith) below))

pub is_true-returns-in-Path : goal.is_true-returns-in-Path
is_true-returns-in-Path t c = record { truth = c.has.ensures.member ∙ sym (true_in-at c.args.program.now.states c.requires.sound.ordered c.args.n _ (c.state.ensures.it ∙ ap Some c.in-Path.is) (has c.args.set.now)) }

pub is_true-returns-in-Value : goal.is_true-returns-in-Value
is_true-returns-in-Value t c = record { truth = c.has-in-Value.ensures.member ∙ sym (true_in-at c.args.program.now.states c.requires.sound.ordered c.args.n _ (c.state.ensures.it ∙ ap Some c.in-Value.is) (has c.args.set.now)) }

pub is_true-returns-in-Not : goal.is_true-returns-in-Not
is_true-returns-in-Not t c = record { truth = ap not c.is_true.ensures.truth ∙ sym (true_in-at c.args.program.now.states c.requires.sound.ordered c.args.n _ (c.state.ensures.it ∙ ap Some c.in-Not.is) (has c.args.set.now)) }

pub is_true-returns-in-And : goal.is_true-returns-in-And
is_true-returns-in-And t c = record {
  truth =
      ap not c.some_part_is.ensures.some
      ∙ (none_false (true_in c.args.program.now.states (has c.args.set.now)) c.as_slice.result.now
      ∙ (ap (list_all (true_in c.args.program.now.states (has c.args.set.now))) c.as_slice.ensures.same
      ∙ sym (true_in-at c.args.program.now.states c.requires.sound.ordered c.args.n _ (c.state.ensures.it ∙ ap Some c.in-And.is) (has c.args.set.now))));
}

pub is_true-returns-in-Or : goal.is_true-returns-in-Or
is_true-returns-in-Or t c = record {
  truth =
      c.some_part_is-in-Or.ensures.some
      ∙ (some_true (true_in c.args.program.now.states (has c.args.set.now)) c.as_slice-in-Or.result.now
      ∙ (ap (list_any (true_in c.args.program.now.states (has c.args.set.now))) c.as_slice-in-Or.ensures.same
      ∙ sym (true_in-at c.args.program.now.states c.requires.sound.ordered c.args.n _ (c.state.ensures.it ∙ ap Some c.in-Or.is) (has c.args.set.now))));
}

pub some_part_is-overflow_cast-part : goal.some_part_is-overflow_cast-part
some_part_is-overflow_cast-part t c =
    let within : get_or c.args.parts.now c.loop-part.part-index 0 < length c.args.program.now.states = part-at c.args.parts.now (length c.args.program.now.states) c.loop-part.part-index c.requires.there c.loop-part-test.true in
    let few : length c.args.program.now.states ≤ 500000 = c.requires.sound.few in
    search (rules, few, within)

pub some_part_is-is_true-requires : goal.some_part_is-is_true-requires
some_part_is-is_true-requires t c =
    let less : get_or c.args.parts.now c.loop-part.part-index 0 < past_parts c.args.parts.now = part_past c.args.parts.now c.loop-part.part-index c.loop-part-test.true in
    let within : get_or c.args.parts.now c.loop-part.part-index 0 < length c.args.program.now.states = part-at c.args.parts.now (length c.args.program.now.states) c.loop-part.part-index c.requires.there c.loop-part-test.true in
    (omega arith, (c.requires.sound, within))
