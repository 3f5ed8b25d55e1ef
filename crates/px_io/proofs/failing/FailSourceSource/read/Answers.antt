-- What was read and what is left are what was left before.
use Rattle.std.proofs.Common.{Some, ap, arith, ◌∙◌, sym}
use Rattle.px_io.specs.Failing.{Failing}
use Rattle.px_io.proofs.Fronts.{piece_then_left}
use Rattle.px_io.proofs.failing.FailSourceSource.read.Goals as goal

pub returns-clause-next : goal.returns-clause-next
returns-clause-next c =
    let copied = rw (c.front.ensures.same, c.as_slice.ensures.same) at c.copy_front-count.ensures.copied in
    let e = piece_then_left c.self.inside.bytes c.copy_front-count.new.into c.self.inside.at c.copy_front-count.result c.self.inside.piece
    (omega arith) copied in
    (omega arith, c.copy_front-count.ensures.within, ap Some (sym (ap (λ (f : Failing). f.bytes) c.self.view_is) ∙ e))
