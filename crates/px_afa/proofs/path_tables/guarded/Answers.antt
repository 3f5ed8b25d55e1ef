use Rattle.std.proofs.Common.{◌≡◌, ◌∙◌, sym, length, arith}
use Rattle.px_afa.specs.Building.{newest}
use Rattle.px_afa.specs.Tables.{is_guarded_by}
use Rattle.px_afa.proofs.StatesByNumber.{newest-length}
use Rattle.px_afa.proofs.GroupedLists.{within_count}
use Rattle.px_afa.proofs.PathKeeping.{row_next, rows_all}
use Rattle.px_afa.proofs.path_tables.guarded.Goals as goal

pub put-requires : goal.put-requires
put-requires c = record {
  within = within_count c.guard_key.result (length (newest c.args.states.now)) (length c.loop-n.groups) (newest-length c.args.states.now ∙ sym c.loop-n.invariant.count) (c.guard_key.ensures.within (newest c.args.states.now) c.requires.guards);
}

pub loop-n-preserved : goal.loop-n-preserved
loop-n-preserved c = record {
  count = c.in_ok-put.ensures.count ∙ c.loop-n.invariant.count;
  rows = row_next c.args.states.now c.loop-n.n c.index-states-n.result (λ guard s. is_guarded_by (newest c.args.states.now) guard s) c.loop-n.groups c.put.new.self c.guard_key.result
      c.loop-n-test.true c.index-states-n.is c.in_ok-put.ensures.put (c.guard_key.ensures.key (newest c.args.states.now) c.requires.guards) c.loop-n.invariant.rows;
}

pub returns : goal.returns
returns c =
    let end = c.loop-n-test.false in
    let most = c.loop-n.auto.n-end in
    let all : c.loop-n.n ≡ length c.args.states.now = omega arith in
    record { all = rows_all c.args.states.now c.loop-n.n (λ guard s. is_guarded_by (newest c.args.states.now) guard s) c.loop-n.groups all c.loop-n.invariant.rows }
