-- The lines are the replies to the documents.
use Rattle.px_parallel.proofs.Replying.{ok_then}
use Rattle.px_parallel.proofs.Answered.{documents_answer}
use Rattle.px_parallel.proofs.workers.Workers.filter.Goals as goal

pub returns : goal.returns
returns g c = record {
  lines = ok_then c.lines_of.result c.lines_of.ensures (λ lines is.
      documents_answer g.N.HubName.passes c.args.documents.now c.args.passes.now c.filter_all.new.passes c.in_ok-replies.replies.items lines.items c.in_ok-replies.ensures.led c.in_ok-replies.ensures.same
      c.in_ok-replies.ensures.replies is);
}
