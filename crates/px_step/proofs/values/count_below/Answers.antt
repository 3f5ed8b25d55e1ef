use Rattle.std.proofs.Common.{nat_lt, rules, arith}
use Rattle.std.proofs.lemmas.List.Sorted.{IsPartitionPoint-from_clause, IsPartitionedBy-ltb}
use Rattle.px_afa.specs.declared.state.Related.{Related}
use Rattle.px_step.proofs.ClassRanges.{front_passes, back_fails}
use Rattle.px_step.proofs.values.count_below.Goals as goal

pub returns-clause-front : goal.returns-clause-front
returns-clause-front c =
    let parted = IsPartitionedBy-ltb (λ (entry : Related). entry.class) _ c.args.class c.requires.rising in
    let point = IsPartitionPoint-from_clause (λ (entry : Related). nat_lt entry.class c.args.class) _ _ c.partition_point.ensures.partitioned parted (λ a r q k. search rules) in
    front_passes (λ (entry : Related). nat_lt entry.class c.args.class) _ _ c.partition_point.ensures.bound (λ k d h. point.0 k d (omega arith) h) (λ k d low h. point.1 k d low h)

pub returns-clause-back : goal.returns-clause-back
returns-clause-back c =
    let parted = IsPartitionedBy-ltb (λ (entry : Related). entry.class) _ c.args.class c.requires.rising in
    let point = IsPartitionPoint-from_clause (λ (entry : Related). nat_lt entry.class c.args.class) _ _ c.partition_point.ensures.partitioned parted (λ a r q k. search rules) in
    back_fails (λ (entry : Related). nat_lt entry.class c.args.class) _ _ c.partition_point.ensures.bound (λ k d h. point.0 k d (omega arith) h) (λ k d low h. point.1 k d low h)
