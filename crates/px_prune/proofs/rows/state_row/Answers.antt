use Rattle.px_prune.proofs.NeededParts.{need-is}
use Rattle.px_prune.proofs.rows.state_row.Goals as goal

pub returns : goal.returns
returns c = record {
  row =
      need-is c.args.program.now.states c.args.n c.new-needed.result.items c.add_needs.new.needed.items c.ascending.result.items
      c.requires.sound.few c.new-needed.ensures.items c.in_ok-add_needs.ensures.added c.ascending.ensures.rises c.ascending.ensures.same;
}
