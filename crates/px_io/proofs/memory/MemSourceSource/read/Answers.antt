-- What was read and what is left are what was left before.
use Rattle.std.proofs.Common.{Some, ap, arith, ◌∙◌, sym}
use Rattle.px_io.proofs.Fronts.{copied_then_left}
use Rattle.px_io.proofs.memory.MemSourceSource.read.Goals as goal

pub returns-clause-next : goal.returns-clause-next
returns-clause-next c =
    let copied = rw c.as_slice.ensures.same at c.copy_front-count.ensures.copied in
    let e = copied_then_left c.self.inside.bytes c.copy_front-count.new.into c.self.inside.at c.copy_front-count.result copied in
    (omega arith, c.copy_front-count.ensures.within, ap Some (sym c.self.view_is ∙ e))
