use Rattle.std.proofs.Common.{ℕ, List, Err, ap, ◌∙◌, subst}
use Rattle.std.specs.Prelude.{Result}
use Rattle.px_reader.specs.Verdicts.{SpellsTree}
use Rattle.px_hub.specs.declared.reply.FilterCallFault.{FilterCallFault}
use Rattle.px_hub.specs.declared.reply.Reply.{Reply}
use Rattle.px_hub.specs.Replying.{Filters}
use Rattle.px_pool.proofs.Spelt.{no_fault}
use Rattle.px_pool.proofs.worker.reply_to.Goals as goal

pub unreachable-requires : goal.unreachable-requires
unreachable-requires g c =
    no_fault g.N.HubName.table.shape c.args.pass.now c.filter_read.new.pass c.args.doc.now c.in-Err-Doc.field-0-0
    (subst (λ (bytes : List ℕ). SpellsTree bytes) c.bytes.ensures.same c.bytes.ensures.spelt)
    (subst (λ (r : Result Reply FilterCallFault). Filters g.N.HubName.table.shape c.args.pass.now c.filter_read.new.pass c.args.doc.now r) (c.in-Err-Doc.is ∙ ap Err c.in-Err-Doc.field-0-is) c.filter_read.ensures)
