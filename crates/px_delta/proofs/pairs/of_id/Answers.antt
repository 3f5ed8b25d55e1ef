-- Behind all that have a lower id stands the filter of the id, or another, or none.
use Rattle.std.proofs.Common.{le_refl, sym, arith}
use Rattle.std.proofs.lemmas.Bool.{ltb-false}
use Rattle.px_workload.proofs.Following.{none-at}
use Rattle.px_delta.proofs.Finding.{found_at, found_none}
use Rattle.px_delta.proofs.pairs.of_id.Goals as goal
use Rattle.px_delta.proofs.pairs.of_id.Goals.{in_default-via-in-Some+else-numbered-id, in_default-via-in_default}

pub returns-in-Some : goal.returns-in-Some
returns-in-Some c =
    let there = c.in-Some.ensures.lookup in
    found_at c.args.list.now c.count_below.result c.args.id c.in-Some.numbered.now there.3.0 (there.4 (le_refl _)) c.if-numbered-id.true c.count_below.ensures.lower

pub returns-in_default : goal.returns-in_default
returns-in_default c =
    let lower = c.count_below.ensures.lower in
    elim c.in_default.branch [
      | in_default-via-in-Some+else-numbered-id w ↦
          (let there = w.in-Some.ensures.lookup in
          found_none c.args.list.now c.args.id
          (none-at c.args.list.now c.count_below.result c.args.id w.in-Some.numbered.now c.requires.order there.3.0 (there.4 (le_refl _)) w.if-numbered-id.false lower c.count_below.ensures.others))
      | in_default-via-in_default w ↦
          (let past = ltb-false _ _ (sym w.in_default.ensures.lookup.0) in
          found_none c.args.list.now c.args.id (λ k d less e. let low = lower k d (omega arith) (omega arith) in absurd (omega arith)))
    ]
