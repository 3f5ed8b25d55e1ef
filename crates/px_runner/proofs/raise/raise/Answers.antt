use Rattle.px_runner.proofs.Made.{keeps_on, holds_on, err_on}
use Rattle.px_runner.proofs.Raised.{raise_ok}
use Rattle.px_runner.proofs.raise.raise.Goals as goal

pub add-requires : goal.add-requires
add-requires g c =
    let r = c.requires.sets in
    let one = c.in_ok-popped.ensures.ok r.2 r.5 in
    let two = c.in_ok-masked.ensures.ok _ r.0 one.holds (holds_on one.advances.keeps r.3) in
    (r.1, _, holds_on two.advances.keeps (holds_on one.advances.keeps r.4), two.holds)

pub returns-clause-ok : goal.returns-clause-ok
returns-clause-ok g c =
    raise_ok g.M.Memo.automata g.M.Memo.stands_for g.M.Memo.tells c.args.memo.now c.pop.new.memo c.mask.new.memo c.add.new.memo c.add.result
    c.in_ok-popped.popped c.in_ok-masked.masked c.args.needed.now c.args.gathered.now c.args.set.now c.args.label
    c.in_ok-popped.ensures.ok c.in_ok-masked.ensures.ok c.add.ensures.ok

pub returns-clause-err : goal.returns-clause-err
returns-clause-err g c =
    let r = c.requires.sets in
    let one = c.in_ok-popped.ensures.ok r.2 r.5 in
    let two = c.in_ok-masked.ensures.ok _ r.0 one.holds (holds_on one.advances.keeps r.3) in
    err_on g.M.Memo.automata g.M.Memo.stands_for c.args.memo.now c.mask.new.memo c.add.new.memo c.add.result
    (keeps_on one.advances.keeps two.advances.keeps) c.add.ensures.err
