use Rattle.std.proofs.Common.{ap, ◌∙◌, arith}
use Rattle.px_crew.specs.declared.rule.Quota.{Quota}
use Rattle.px_pool.proofs.Gathers.{are_full, are_replies}
use Rattle.px_pool.proofs.Whole.{ok_then}
use Rattle.px_pool.proofs.gather.gather.Goals as goal

pub take_all-requires : goal.take_all-requires
take_all-requires c =
    record {
      full = are_full c.args.workers.items c.take_all_in.new.whole.hand c.take_all_in.new.slots.items c.learn.result c.in_ok-take_all_in.ensures.gathered c.requires.some c.learn.ensures.once
          (λ ended. let a = c.learn.ensures.all ended in let q = ap (λ (q : Quota). q.limit) c.requires.quota in let l = c.take_all_in.ensures.long ∙ c.in_ok-slots.ensures.long in omega arith);
    }

pub returns : goal.returns
returns c =
    ok_then c.take_all.result c.take_all.ensures (λ replies is. are_replies c.args.workers.items c.take_all_in.new.whole.hand c.take_all_in.new.slots.items c.learn.result c.in_ok-take_all_in.ensures.gathered c.requires.some c.learn.ensures.once
    (λ ended. let a = c.learn.ensures.all ended in let q = ap (λ (q : Quota). q.limit) c.requires.quota in let l = c.take_all_in.ensures.long ∙ c.in_ok-slots.ensures.long in omega arith)
    replies.items c.args.count is (c.take_all_in.ensures.long ∙ c.in_ok-slots.ensures.long))
