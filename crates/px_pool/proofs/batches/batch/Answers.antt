use Rattle.std.proofs.Common.{◌+◌, ℕ, length, ap, sym, ◌∙◌, arith}
use Rattle.px_crew.specs.Drawn.{quota_of}
use Rattle.px_pool.specs.Working.{WorkedIfClosed}
use Rattle.px_pool.proofs.Whole.{as_many, ok_then, closed_stay, closed_brought, closed_batched}
use Rattle.px_pool.proofs.batches.batch.Goals as goal

pub gather-requires-clause-some : goal.gather-requires-clause-some
gather-requires-clause-some g c =
    let long = as_many (WorkedIfClosed g.N.HubName.table.shape c.args.docs.now) c.args.passes.now c.in_ok-workers.workers.items c.work.new.passes c.work.new.workers.items c.work.ensures.worked in
    let many = c.in_ok-workers.ensures.many in let some = c.requires.some in omega arith

pub gather-requires-clause-quota : goal.gather-requires-clause-quota
gather-requires-clause-quota g c =
    let long = as_many (WorkedIfClosed g.N.HubName.table.shape c.args.docs.now) c.args.passes.now c.in_ok-workers.workers.items c.work.new.passes c.work.new.workers.items c.work.ensures.worked in
    let many = c.in_ok-workers.ensures.many in
    c.in_ok-draws.ensures.quota ∙ ap (λ (n : ℕ). quota_of (length c.args.docs.now) (n + 1)) (sym (long ∙ many))

pub gather-requires-clause-brought : goal.gather-requires-clause-brought
gather-requires-clause-brought g c =
    closed_brought g.N.HubName.table.shape c.args.docs.now c.args.passes.now c.in_ok-workers.workers.items c.work.new.passes c.work.new.workers.items c.requires.closed c.work.ensures.worked c.in_ok-draws.draws c.in_ok-workers.ensures.fresh

pub returns-clause-stay : goal.returns-clause-stay
returns-clause-stay g c =
    closed_stay g.N.HubName.table.shape c.args.docs.now c.args.passes.now c.in_ok-workers.workers.items c.work.new.passes c.work.new.workers.items c.requires.closed c.work.ensures.worked

pub returns-clause-batched : goal.returns-clause-batched
returns-clause-batched g c =
    ok_then c.gather.result c.gather.ensures (λ replies are. closed_batched g.N.HubName.table.shape c.args.docs.now c.args.passes.now c.in_ok-workers.workers.items c.work.new.passes c.work.new.workers.items c.requires.closed c.work.ensures.worked replies.items are)
