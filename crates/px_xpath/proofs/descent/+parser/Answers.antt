use Rattle.std.proofs.lemmas.Result.{err_from_is_err_and}
use Rattle.std.proofs.Common.{[], Ok}
use Rattle.px_xpath.specs.Tokens as tokens
use Rattle.px_xpath.specs.TokenViews.{all_placed}
use Rattle.px_xpath.specs.Reads.{ReadsAnds, ReadsOrs, ReadsPreds}
use Rattle.px_xpath.specs.Faults.{words}
use Rattle.px_xpath.specs.Grammar as grammar
use Rattle.px_xpath.specs.Views.{condition as view, way}
use Rattle.px_xpath.proofs.Reading.{ands_more, ands_end, ors_more, ors_end, closed_reads, predicate_stops, predicates_more, predicates_end, element_stops, steps_more, steps_end, steps_last, inside_stops, inside_reads, along_stops, along_reads, fewer_behind, fewer_closed, fewer_elements}
use Rattle.px_xpath.proofs.Onward.{goes_on, steps_on}
use Rattle.px_xpath.proofs.descent.+parser.Goals as goal

pub and_member-returns-in-None : goal.and_member-returns-in-None
and_member-returns-in-None t c =
    ands_end c.args.spare c.args.done c.in_ok-all.all (view c.in_ok-found.found) (all_placed c.args.tokens.now) (all_placed c.in_ok-found.rest.now)
    c.in_ok-found.ensures.0 c.in_ok-found.ensures.1 c.in_ok-all.ensures c.in-None.ensures

pub closed-returns-in-Some : goal.closed-returns-in-Some
closed-returns-in-Some t c =
    let m = c.in_ok-members.ensures in
    closed_reads c.args.spare c.args.bracket c.in_ok-members.members (view c.disjunction.result) (all_placed c.args.tokens.now) (all_placed c.in_ok-members.rest.now) (all_placed c.in-Some.behind.now)
    m.0 c.disjunction.ensures m.1 c.in-Some.ensures

pub or_member-returns-in-None : goal.or_member-returns-in-None
or_member-returns-in-None t c =
    let m = c.in_ok-members.ensures in
    ors_end c.args.spare c.args.done c.in_ok-all.all c.in_ok-members.members (view c.conjunction.result) (all_placed c.args.tokens.now) (all_placed c.in_ok-members.rest.now)
    m.0 c.conjunction.ensures m.1 c.in_ok-all.ensures m.2 c.in-None.ensures

pub predicate-returns-in_err-found-in-Some : goal.predicate-returns-in_err-found-in-Some
predicate-returns-in_err-found-in-Some t c =
    let p = err_from_is_err_and c.from_residual-in_err-found-in-Some.result c.from_residual-in_err-found-in-Some.ensures.1 in
    let o = rw c.in-Some.is at c.in_ok-left.ensures in
    rw (p.1, p.2)
    (predicate_stops c.args.spare c.in-Some.left (all_placed c.args.tokens.now) (all_placed c.in-Some.inside.now) c.in_err-found-in-Some.field-0.0 o.0 o.1 c.in_err-found-in-Some.ensures)

pub predicate-returns-in-None : goal.predicate-returns-in-None
predicate-returns-in-None t c = predicates_end c.args.spare c.args.done (all_placed c.args.tokens.now) (rw c.in-None.is at c.in_ok-left.ensures)

pub next_step-returns-in_err-test : goal.next_step-returns-in_err-test
next_step-returns-in_err-test t c =
    let p = err_from_is_err_and c.from_residual.result c.from_residual.ensures.1 in
    rw (p.1, p.2) (λ around h. c.in_err-test.ensures around)

pub next_step-returns-in_err-conds-in-Element : goal.next_step-returns-in_err-conds-in-Element
next_step-returns-in_err-conds-in-Element t c =
    let p = err_from_is_err_and c.from_residual-in_err-conds-in-Element.result c.from_residual-in_err-conds-in-Element.ensures.1 in
    let e = rw c.in-Element.is at c.in_ok-test.ensures in
    rw (p.1, p.2) (element_stops c.args.spare c.in-Element.test (all_placed c.args.tokens.now) (all_placed c.in-Element.inside.now) c.in_err-conds-in-Element.field-0.0 e c.in_err-conds-in-Element.ensures)

pub next_step-returns-in_ok-all-in-Last : goal.next_step-returns-in_ok-all-in-Last
next_step-returns-in_ok-all-in-Last t c =
    let e = rw c.in-Last.is at c.in_ok-test.ensures in
    steps_last c.args.spare c.args.done c.in_ok-all-in-Last.all c.args.axis c.in-Last.test c.new.result (all_placed c.args.tokens.now) (all_placed c.in-Last.rest.now)
    c.new.ensures e.0 e.1 c.in_ok-all-in-Last.ensures

pub next_step-returns-in-None : goal.next_step-returns-in-None
next_step-returns-in-None t c =
    let e = rw c.in-Element.is at c.in_ok-test.ensures in
    let p = c.in_ok-conds-in-Element.ensures in
    steps_end c.args.spare c.args.done c.in_ok-all-in-Element.all c.args.axis c.in-Element.test c.in_ok-conds-in-Element.conds (all_placed c.args.tokens.now) (all_placed c.in-Element.inside.now)
    (all_placed c.in_ok-conds-in-Element.rest.now) e p.0 p.1 c.in_ok-all-in-Element.ensures p.2 c.in-None.ensures

pub unary-returns-in_err-found-in-Inside : goal.unary-returns-in_err-found-in-Inside
unary-returns-in_err-found-in-Inside t c =
    let p = err_from_is_err_and c.from_residual-in_err-found-in-Inside.result c.from_residual-in_err-found-in-Inside.ensures.1 in
    let b = rw c.in-Inside.is at c.in_ok-is_negated.ensures in
    rw (p.1, p.2) (inside_stops c.args.spare c.in-Inside.left (all_placed c.args.tokens.now) (all_placed c.in-Inside.rest.now) c.in_err-found-in-Inside.field-0.0 b.0 b.2 c.in_err-found-in-Inside.ensures)

pub unary-returns-in_err-steps-in-Along : goal.unary-returns-in_err-steps-in-Along
unary-returns-in_err-steps-in-Along t c =
    let p = err_from_is_err_and c.from_residual-in_err-steps-in-Along.result c.from_residual-in_err-steps-in-Along.ensures.1 in
    let b = rw c.in-Along.is at c.in_ok-is_negated.ensures in
    rw (p.1, p.2) (along_stops c.args.spare (all_placed c.args.tokens.now) (all_placed c.in-Along.rest.now) c.in_err-steps-in-Along.field-0.0 b.1 c.in_err-steps-in-Along.ensures)

pub unary-returns-in_ok-negated_if-in-Inside : goal.unary-returns-in_ok-negated_if-in-Inside
unary-returns-in_ok-negated_if-in-Inside t c =
    let b = rw c.in-Inside.is at c.in_ok-is_negated.ensures in
    let f = c.in_ok-found-in-Inside.ensures in
    let rest = all_placed c.in_ok-found-in-Inside.rest.now in (
      rw c.in_ok-negated_if-in-Inside.ensures (b.1 (view c.in_ok-found-in-Inside.found) (words rest) f.0),
      inside_reads c.args.spare c.in-Inside.left (all_placed c.args.tokens.now) (all_placed c.in-Inside.rest.now) rest b.0 b.2 f.1,
    )

pub unary-returns-in_ok-steps-in-Along : goal.unary-returns-in_ok-steps-in-Along
unary-returns-in_ok-steps-in-Along t c =
    let b = rw c.in-Along.is at c.in_ok-is_negated.ensures in
    let q = c.in_ok-steps-in-Along.ensures in
    along_reads c.args.spare c.in-Along.axis c.in_ok-steps-in-Along.steps (way c.path_of.result) (all_placed c.args.tokens.now) (all_placed c.in-Along.rest.now) (all_placed c.in_ok-steps-in-Along.rest.now) c.comparison.result
    b.0 b.1 q.0 q.1 c.path_of.ensures c.comparison.ensures

pub and_member-returns-in-Some : goal.and_member-returns-in-Some
and_member-returns-in-Some t c = (
  fewer_behind (all_placed c.args.tokens.now) (all_placed c.in_ok-found.rest.now) (all_placed c.in-Some.behind.now) tokens.AndWord (grammar.Unary (view c.in_ok-found.found)) c.in_ok-found.ensures.0 c.in-Some.ensures,
  λ r h. ands_more c.args.spare c.args.done c.in_ok-all.all (view c.in_ok-found.found) (all_placed c.args.tokens.now) (all_placed c.in_ok-found.rest.now) (all_placed c.in-Some.behind.now) r
      c.in_ok-found.ensures.0 c.in_ok-found.ensures.1 c.in_ok-all.ensures c.in-Some.ensures h,
)

pub or_member-returns-in-Some : goal.or_member-returns-in-Some
or_member-returns-in-Some t c =
    let m = c.in_ok-members.ensures in
    let (cs, s, e) = m.0 in (
      fewer_behind (all_placed c.args.tokens.now) (all_placed c.in_ok-members.rest.now) (all_placed c.in-Some.behind.now) tokens.OrWord (grammar.Ands cs) s c.in-Some.ensures,
      λ r h. ors_more c.args.spare c.args.done c.in_ok-all.all c.in_ok-members.members (view c.conjunction.result) (all_placed c.args.tokens.now) (all_placed c.in_ok-members.rest.now)
          (all_placed c.in-Some.behind.now) r m.0 c.conjunction.ensures m.1 c.in_ok-all.ensures c.in-Some.ensures h,
    )

pub predicate-returns-in_ok-with_condition-in-Some : goal.predicate-returns-in_ok-with_condition-in-Some
predicate-returns-in_ok-with_condition-in-Some t c =
    let o = rw c.in-Some.is at c.in_ok-left.ensures in
    let f = c.in_ok-found-in-Some.ensures in (
      fewer_closed (all_placed c.args.tokens.now) (all_placed c.in-Some.inside.now) (all_placed c.in_ok-found-in-Some.rest.now) tokens.OpenSquare tokens.CloseSquare
          (grammar.Or (view c.in_ok-found-in-Some.found)) o.0 f.0,
      λ r h. predicates_more c.args.spare c.in-Some.left c.args.done c.in_ok-with_condition-in-Some.field-0 (view c.in_ok-found-in-Some.found) (all_placed c.args.tokens.now)
          (all_placed c.in-Some.inside.now) (all_placed c.in_ok-found-in-Some.rest.now) r o.0 o.1 f.0 f.1 c.in_ok-with_condition-in-Some.ensures h,
    )

pub next_step-returns-in-Some : goal.next_step-returns-in-Some
next_step-returns-in-Some t c =
    let e = rw c.in-Element.is at c.in_ok-test.ensures in
    let p = c.in_ok-conds-in-Element.ensures in
    let (cs, s, f) = p.0 in (
      fewer_elements (all_placed c.args.tokens.now) (all_placed c.in-Element.inside.now) (all_placed c.in_ok-conds-in-Element.rest.now) (all_placed c.in-Some.behind.now) (grammar.separator c.in-Some.next)
          c.in-Element.test (grammar.Preds cs) e s c.in-Some.ensures,
      λ r h. steps_more c.args.spare c.args.done c.in_ok-all-in-Element.all c.args.axis c.in-Some.next c.in-Element.test c.in_ok-conds-in-Element.conds (all_placed c.args.tokens.now) (all_placed c.in-Element.inside.now)
          (all_placed c.in_ok-conds-in-Element.rest.now) (all_placed c.in-Some.behind.now) r e p.0 p.1 c.in_ok-all-in-Element.ensures c.in-Some.ensures h,
    )

pub ands-loop-read-preserved : goal.ands-loop-read-preserved
ands-loop-read-preserved t c =
    goes_on (ReadsAnds c.args.spare) [] c.in-More.done (all_placed c.args.tokens.now) c.in-More.behind (Ok c.in_ok-read-in-More.read) (rw c.in-More.is at c.loop-read.invariant) c.in_ok-read-in-More.ensures

pub ors-loop-read-preserved : goal.ors-loop-read-preserved
ors-loop-read-preserved t c =
    goes_on (ReadsOrs c.args.spare) [] c.in-More.done (all_placed c.args.tokens.now) c.in-More.behind (Ok c.in_ok-read-in-More.read) (rw c.in-More.is at c.loop-read.invariant) c.in_ok-read-in-More.ensures

pub predicates-loop-read-preserved : goal.predicates-loop-read-preserved
predicates-loop-read-preserved t c =
    goes_on (ReadsPreds c.args.spare) [] c.in-More.done (all_placed c.args.tokens.now) c.in-More.behind (Ok c.in_ok-read-in-More.read) (rw c.in-More.is at c.loop-read.invariant) c.in_ok-read-in-More.ensures

pub steps-loop-read-preserved : goal.steps-loop-read-preserved
steps-loop-read-preserved t c =
    steps_on c.args.spare [] c.in-More.done c.args.axis c.in-More.next (all_placed c.args.tokens.now) c.in-More.behind (Ok c.in_ok-read-in-More.read)
    (rw c.in-More.is at c.loop-read.invariant) c.in_ok-read-in-More.ensures
