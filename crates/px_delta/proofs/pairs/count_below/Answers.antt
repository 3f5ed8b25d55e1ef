use Rattle.std.proofs.Common.{nat_lt, rules}
use Rattle.std.proofs.lemmas.Bool.{ltb-true, ltb-false}
use Rattle.std.proofs.lemmas.List.Sorted.{IsPartitionPoint-from_clause, IsPartitionedBy-ltb}
use Rattle.px_xpath.specs.declared.numbered.Numbered.{Numbered}
use Rattle.px_workload.proofs.Following.{id_of, ids-rise}
use Rattle.px_delta.proofs.pairs.count_below.Goals as goal

pub returns-clause-lower : goal.returns-clause-lower
returns-clause-lower c k d low less =
    let parted = IsPartitionedBy-ltb id_of _ c.args.id (ids-rise c.args.list.now c.requires.order) in
    let point = IsPartitionPoint-from_clause (λ (n : Numbered). nat_lt n.id c.args.id) _ _ c.partition_point.ensures.partitioned parted (λ a r q k. search rules) in
    ltb-true _ _ (point.0 k d low less)

pub returns-clause-others : goal.returns-clause-others
returns-clause-others c k d low less =
    let parted = IsPartitionedBy-ltb id_of _ c.args.id (ids-rise c.args.list.now c.requires.order) in
    let point = IsPartitionPoint-from_clause (λ (n : Numbered). nat_lt n.id c.args.id) _ _ c.partition_point.ensures.partitioned parted (λ a r q k. search rules) in
    ltb-false _ _ (point.1 k d low less)
