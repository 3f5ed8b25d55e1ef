use Rattle.std.proofs.Common.{◌∙◌, ap}
use Rattle.px_afa.specs.Lists.{lists_of, row}
use Rattle.px_afa.proofs.GroupedLists.{count_more, row_more}
use Rattle.px_afa.proofs.groups.Groups.new.Goals as goal

pub loop-preserved : goal.loop-preserved
loop-preserved c =
    let grown = c.in_ok-push.ensures.items in
    record {
      count = rw grown (count_more c.loop.rows.items c.new.result c.loop.counter c.loop.invariant.count);
      empty = λ key. ap (λ rows. row (lists_of rows) key) grown ∙ (row_more c.loop.rows.items c.new.result key c.new.ensures.items ∙ c.loop.invariant.empty key);
    }
