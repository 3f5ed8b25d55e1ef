-- Before the first item.
use Rattle.px_lines.proofs.FeedStands.{begun}
use Rattle.px_serial.proofs.Noting.{begun_up}
use Rattle.px_serial.proofs.serving.Serving.new.Goals as goal

pub returns : goal.returns
returns c = record {
  begun = λ first. begun c.in_ok-new.field-0 c.new-2.result.changes c.new-4.result first (c.in_ok-new.ensures first.left) c.new-2.ensures.empty (c.new-4.ensures first.held);
  keeps_up = begun_up c.new-3.result c.new-2.result.changes c.new-2.ensures.empty c.new-3.ensures.none;
}
