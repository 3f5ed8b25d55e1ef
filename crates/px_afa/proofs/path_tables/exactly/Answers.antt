use Rattle.std.proofs.Common.{◌≡◌, ◌≤◌, ◌∙◌, ◌&&◌, length, arith}
use Rattle.px_afa.specs.Building.{newest}
use Rattle.px_afa.specs.Labels.{names_of}
use Rattle.px_afa.specs.Tables.{is_unguarded, tests_exactly}
use Rattle.px_afa.proofs.KnownNames.{names_few}
use Rattle.px_afa.proofs.PathKeeping.{row_next, rows_all}
use Rattle.px_afa.proofs.path_tables.exactly.Goals as goal

pub labels-requires : goal.labels-requires
labels-requires c =
    let few : length c.args.names.now.are_elements.items ≤ 500_000 = names_few c.args.names.now c.args.states.now 500_000 c.requires.names c.requires.few in
    record { few = omega (arith, c.args.names.now.are_elements.ok.0) }

pub loop-n-preserved : goal.loop-n-preserved
loop-n-preserved c = record {
  count = c.in_ok-put.ensures.count ∙ c.loop-n.invariant.count;
  rows = row_next c.args.states.now c.loop-n.n c.index-states-n.result (λ label s. is_unguarded (newest c.args.states.now) s && tests_exactly (names_of (newest c.args.states.now)) label s) c.loop-n.groups c.put.new.self c.exact_key.result
      c.loop-n-test.true c.index-states-n.is c.in_ok-put.ensures.put (c.exact_key.ensures.key (newest c.args.states.now) c.requires.guards c.requires.names) c.loop-n.invariant.rows;
}

pub returns : goal.returns
returns c =
    let end = c.loop-n-test.false in
    let most = c.loop-n.auto.n-end in
    let all : c.loop-n.n ≡ length c.args.states.now = omega arith in
    record { all = rows_all c.args.states.now c.loop-n.n (λ label s. is_unguarded (newest c.args.states.now) s && tests_exactly (names_of (newest c.args.states.now)) label s) c.loop-n.groups all c.loop-n.invariant.rows }
