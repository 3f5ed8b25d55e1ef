-- All have seen the same, and so answer the same.
use Rattle.px_parallel.proofs.Replying.{ok_then, batch_replies}
use Rattle.px_parallel.proofs.workers.Workers.filter_by.Goals as goal

pub returns-clause-replies : goal.returns-clause-replies
returns-clause-replies g c =
    ok_then c.batch.result c.batch.ensures.batched (λ replies batched. batch_replies g.N.HubName.table.shape c.args.documents.now c.args.workers.now c.batch.new.passes replies.items batched)
