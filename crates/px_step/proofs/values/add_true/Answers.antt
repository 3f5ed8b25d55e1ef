use Rattle.std.proofs.Common.{rules}
use Rattle.std.proofs.lemmas.List.Sorted.{IsNonDecreasingBy-drop}
use Rattle.px_afa.specs.declared.state.Related.{Related}
use Rattle.px_step.proofs.Results.{if_ok}
use Rattle.px_step.proofs.ClassRanges.{true-added, classes-rise}
use Rattle.px_step.proofs.values.add_true.Goals as goal

pub returns : goal.returns
returns c = record {
  added =
      if_ok c.add_if-3.result c.add_if-3.ensures.added
      (λ last.
      true-added c.args.program.now.states c.args.relation c.args.class c.from.result _ _ _ c.related-entries.result.now
      c.split_at.result.0.now c.split_at.result.1.now c.split_at-2.result.0.now c.split_at-2.result.1.now
      c.args.states.now.items c.add_if.new.states.items c.add_if-2.new.states.items c.add_if-3.new.states.items
      c.is_told.result c.is_told-2.result c.is_told-3.result
      c.related-entries.ensures.all (search rules) (search rules)
      c.split_at.ensures.front c.split_at.ensures.back c.count_below.ensures.front c.count_below.ensures.back
      c.split_at-2.ensures.front c.split_at-2.ensures.back c.count_below-2.ensures.front c.count_below-2.ensures.back
      c.is_told.ensures.told c.is_told-2.ensures.told c.is_told-3.ensures.told
      c.in_ok-add_if.ensures.added c.in_ok-add_if-2.ensures.added last);
}

pub count_below-requires : goal.count_below-requires
count_below-requires c = record { rising = classes-rise c.args.program.now.states c.args.relation c.related-entries.result.now c.related-entries.ensures.all }

pub count_below-requires-2 : goal.count_below-requires-2
count_below-requires-2 c = record {
  rising =
      rw c.split_at.ensures.back
      (IsNonDecreasingBy-drop (λ (entry : Related). entry.class) c.count_below.result c.related-entries.result.now
      (classes-rise c.args.program.now.states c.args.relation c.related-entries.result.now c.related-entries.ensures.all));
}
