use Rattle.std.proofs.Common.{◌+◌, ◌*◌, [], length, Ok}
use Rattle.px_xpath.specs.TokenViews.{all_placed}
use Rattle.px_xpath.specs.Reads.{GoesOn, StepsOn, ReadsAnds, ReadsOrs, ReadsPreds}
use Rattle.px_xpath.proofs.Onward.{members_left, steps_left}
use Rattle.px_xpath.proofs.descent.+parser.Given as goal

abbrev pub decreases-predicate : goal.decreases-predicate
decreases-predicate l = 16 * length l.tokens.now + 0

abbrev pub decreases-predicates : goal.decreases-predicates
decreases-predicates l = 16 * length l.tokens.now + 1

abbrev pub decreases-next_step : goal.decreases-next_step
decreases-next_step l = 16 * length l.tokens.now + 2

abbrev pub decreases-steps : goal.decreases-steps
decreases-steps l = 16 * length l.tokens.now + 3

abbrev pub decreases-unary : goal.decreases-unary
decreases-unary l = 16 * length l.tokens.now + 4

abbrev pub decreases-and_member : goal.decreases-and_member
decreases-and_member l = 16 * length l.tokens.now + 5

abbrev pub decreases-ands : goal.decreases-ands
decreases-ands l = 16 * length l.tokens.now + 6

abbrev pub decreases-or_member : goal.decreases-or_member
decreases-or_member l = 16 * length l.tokens.now + 7

abbrev pub decreases-ors : goal.decreases-ors
decreases-ors l = 16 * length l.tokens.now + 8

abbrev pub decreases-closed : goal.decreases-closed
decreases-closed l = 16 * length l.tokens.now + 9

abbrev pub invariant-ands-loop-read : goal.invariant-ands-loop-read
invariant-ands-loop-read l = GoesOn (ReadsAnds l.fn.spare) [] (all_placed l.fn.tokens) (Ok l.read)

abbrev pub decreases-ands-loop-read : goal.decreases-ands-loop-read
decreases-ands-loop-read l = members_left l.read

abbrev pub invariant-ors-loop-read : goal.invariant-ors-loop-read
invariant-ors-loop-read l = GoesOn (ReadsOrs l.fn.spare) [] (all_placed l.fn.tokens) (Ok l.read)

abbrev pub decreases-ors-loop-read : goal.decreases-ors-loop-read
decreases-ors-loop-read l = members_left l.read

abbrev pub invariant-predicates-loop-read : goal.invariant-predicates-loop-read
invariant-predicates-loop-read l = GoesOn (ReadsPreds l.fn.spare) [] (all_placed l.fn.tokens) (Ok l.read)

abbrev pub decreases-predicates-loop-read : goal.decreases-predicates-loop-read
decreases-predicates-loop-read l = members_left l.read

abbrev pub invariant-steps-loop-read : goal.invariant-steps-loop-read
invariant-steps-loop-read l = StepsOn l.fn.spare [] l.fn.axis (all_placed l.fn.tokens) (Ok l.read)

abbrev pub decreases-steps-loop-read : goal.decreases-steps-loop-read
decreases-steps-loop-read l = steps_left l.read
