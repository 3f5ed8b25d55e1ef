use Rattle.std.proofs.Common.{◌∙◌, sym, ap, arith, length, ◌<◌, ◌≤◌, ◌||◌, get_or, Some}
use Rattle.std.specs.List.{list_any}
use Rattle.px_text.specs.Sets.{has}
use Rattle.px_afa.specs.Sets.{needs}
use Rattle.px_step.proofs.Parts.{below-at, part-at, past_parts, parts_within, part_past}
use Rattle.px_step.proofs.Results.{if_ok}
use Rattle.px_prune.proofs.NeededParts.{needs-at, has-end}
use Rattle.px_prune.proofs.rows.+needing.Goals as goal
use Rattle.px_afa.proofs.Growing.{parts_below-more}

pub add_needs-add_needs-requires : goal.add_needs-add_needs-requires
add_needs-add_needs-requires t c =
    let below : c.in-Not.part < c.args.n = (below-at c.args.program.now.states c.requires.sound.ordered c.args.n _ (c.state.ensures.it ∙ ap Some c.in-Not.is)).0 in
    let within : c.args.n < length c.args.program.now.states = c.requires.there in
    (omega arith, (c.requires.sound, omega arith))

pub add_needs-add_part_needs-requires : goal.add_needs-add_part_needs-requires
add_needs-add_part_needs-requires t c =
    let below = (below-at c.args.program.now.states c.requires.sound.ordered c.args.n _ (c.state.ensures.it ∙ ap Some c.in-And.is)).0 in
    let within : c.args.n < length c.args.program.now.states = c.requires.there in
    let least : past_parts c.in-And.parts ≤ c.args.n = parts_within c.in-And.parts c.args.n below in
    rw c.as_slice.ensures.same (omega arith, (c.requires.sound, parts_below-more c.in-And.parts c.args.n (length c.args.program.now.states) (omega arith) below))

pub add_needs-add_part_needs-requires-in-Or : goal.add_needs-add_part_needs-requires-in-Or
add_needs-add_part_needs-requires-in-Or t c =
    let below = (below-at c.args.program.now.states c.requires.sound.ordered c.args.n _ (c.state.ensures.it ∙ ap Some c.in-Or.is)).0 in
    let within : c.args.n < length c.args.program.now.states = c.requires.there in
    let least : past_parts c.in-Or.parts ≤ c.args.n = parts_within c.in-Or.parts c.args.n below in
    rw c.as_slice-in-Or.ensures.same (omega arith, (c.requires.sound, parts_below-more c.in-Or.parts c.args.n (length c.args.program.now.states) (omega arith) below))

pub add_needs-returns-in-Path : goal.add_needs-returns-in-Path
add_needs-returns-in-Path t c = record {
  added =
      if_ok c.add.result c.add.ensures.added
      (λ e k.
      ap (λ z. has z k) e
      ∙ (has-end c.args.needed.now.items c.args.n k
      ∙ ap (λ z. has c.args.needed.now.items k || z) (sym (needs-at c.args.program.now.states c.requires.sound.ordered c.args.n _ (c.state.ensures.it ∙ ap Some c.in-Path.is) k))));
}

pub add_needs-returns-in-Value : goal.add_needs-returns-in-Value
add_needs-returns-in-Value t c = record {
  added =
      if_ok c.add-in-Value.result c.add-in-Value.ensures.added
      (λ e k.
      ap (λ z. has z k) e
      ∙ (has-end c.args.needed.now.items c.args.n k
      ∙ ap (λ z. has c.args.needed.now.items k || z) (sym (needs-at c.args.program.now.states c.requires.sound.ordered c.args.n _ (c.state.ensures.it ∙ ap Some c.in-Value.is) k))));
}

pub add_needs-returns-in-Not : goal.add_needs-returns-in-Not
add_needs-returns-in-Not t c = record {
  added =
      if_ok c.add_needs.result c.add_needs.ensures.added
      (λ e k.
      e k ∙ ap (λ z. has c.args.needed.now.items k || z) (sym (needs-at c.args.program.now.states c.requires.sound.ordered c.args.n _ (c.state.ensures.it ∙ ap Some c.in-Not.is) k)));
}

pub add_needs-returns-in-And : goal.add_needs-returns-in-And
add_needs-returns-in-And t c = record {
  added =
      if_ok c.add_part_needs.result c.add_part_needs.ensures.added
      (λ e k.
      e k
      ∙ ap (λ z. has c.args.needed.now.items k || z)
      (ap (list_any (λ p. needs c.args.program.now.states p k)) c.as_slice.ensures.same
      ∙ sym (needs-at c.args.program.now.states c.requires.sound.ordered c.args.n _ (c.state.ensures.it ∙ ap Some c.in-And.is) k)));
}

pub add_needs-returns-in-Or : goal.add_needs-returns-in-Or
add_needs-returns-in-Or t c = record {
  added =
      if_ok c.add_part_needs-in-Or.result c.add_part_needs-in-Or.ensures.added
      (λ e k.
      e k
      ∙ ap (λ z. has c.args.needed.now.items k || z)
      (ap (list_any (λ p. needs c.args.program.now.states p k)) c.as_slice-in-Or.ensures.same
      ∙ sym (needs-at c.args.program.now.states c.requires.sound.ordered c.args.n _ (c.state.ensures.it ∙ ap Some c.in-Or.is) k)));
}

pub add_part_needs-add_needs-requires : goal.add_part_needs-add_needs-requires
add_part_needs-add_needs-requires t c =
    let less : get_or c.args.parts.now c.loop-part.part-index 0 < past_parts c.args.parts.now = part_past c.args.parts.now c.loop-part.part-index c.loop-part-test.true in
    let within : get_or c.args.parts.now c.loop-part.part-index 0 < length c.args.program.now.states = part-at c.args.parts.now (length c.args.program.now.states) c.loop-part.part-index c.requires.there c.loop-part-test.true in
    (omega arith, (c.requires.sound, within))
