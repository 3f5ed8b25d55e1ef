-- The line that has begun stands at the front.
use Rattle.std.proofs.Common.{refl, sym, subst}
use Rattle.px_reader.specs.Buffers.{Keeps}
use Rattle.px_reader.proofs.Pushed.{unread_begun}
use Rattle.px_reader.proofs.lines.Lines.settle.Goals as goal

pub returns-clause-unread : goal.returns-clause-unread
returns-clause-unread c = λ unread u.
    let old = c.args.self.now in
    record { begun = unread; unread_is = refl; keeps = subst (λ bs. Keeps bs old.lost unread) (sym c.cut_front.ensures) (unread_begun old unread c.requires u) }
