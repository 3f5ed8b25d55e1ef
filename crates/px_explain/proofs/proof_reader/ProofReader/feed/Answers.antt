-- Line after line of the piece is taken, and then what is left of it.
use Rattle.std.proofs.Common.{◌+◌, ◌-◌, [], ◌∷◌, ◌++◌, Ok, length, take, drop, ap, sym, append-nil, arith}
use Rattle.px_explain.proofs.Incoming.{takes_none, takes_more, takes_all, takes_fault, takes_end, cut_line, cut_part, part_has_none, all_has_none}
use Rattle.px_explain.proofs.proof_reader.ProofReader.feed.Goals as goal

pub loop-at-init : goal.loop-at-init
loop-at-init c = takes_none c.args.self.now c.args.piece.now

pub end_line-requires : goal.end_line-requires
end_line-requires c = let found = c.in-Some.ensures in part_has_none c.loop-at.rest.now c.in-Some.at (omega (arith, found.0.high)) found.0.before

pub returns-in-Ok-true-clause-whole : goal.returns-in-Ok-true-clause-whole
returns-in-Ok-true-clause-whole c =
    let rest = c.loop-at.rest.now in
    let found = c.in-Some.ensures in
    let behind = take (length rest - (c.in-Some.at + 1)) (drop (c.in-Some.at + 1) rest) in
    takes_end c.args.self.now c.loop-at.self c.end_line.new.self c.args.piece.now rest (take c.in-Some.at rest) behind c.loop-at.invariant
    (cut_line rest c.in-Some.at found.0.high found.1) (c.in-Ok-true.ensures.whole (ap Ok c.in-Ok-true.field-0-test) behind)

pub returns-in-Err-clause-fault : goal.returns-in-Err-clause-fault
returns-in-Err-clause-fault c =
    let rest = c.loop-at.rest.now in
    let found = c.in-Some.ensures in
    takes_fault c.args.self.now c.loop-at.self c.args.piece.now rest (take c.in-Some.at rest ++ 10 ∷ []) (take (length rest - (c.in-Some.at + 1)) (drop (c.in-Some.at + 1) rest))
    c.in-Err.fault c.loop-at.invariant (cut_part rest c.in-Some.at found.0.high found.1) c.in-Err.ensures.fault

pub loop-at-preserved : goal.loop-at-preserved
loop-at-preserved c =
    let rest = c.loop-at.rest.now in
    let found = c.in-Some.ensures in
    takes_more c.args.self.now c.loop-at.self c.end_line.new.self c.args.piece.now rest (take c.in-Some.at rest ++ 10 ∷ [])
    (take (length rest - (c.in-Some.at + 1)) (drop (c.in-Some.at + 1) rest)) c.loop-at.invariant
    (cut_part rest c.in-Some.at found.0.high found.1) (c.in-Ok-false.ensures.more (ap Ok c.in-Ok-false.field-0-test))

pub begin_line-requires : goal.begin_line-requires
begin_line-requires c = all_has_none c.loop-at.rest.now c.in_default.ensures

pub returns-in-Ok-clause-more : goal.returns-in-Ok-clause-more
returns-in-Ok-clause-more c = λ e. takes_all c.args.self.now c.loop-at.self c.begin_line.new.self c.args.piece.now c.loop-at.rest.now c.loop-at.invariant c.in-Ok.ensures.more

pub returns-in-Err-begin_line-clause-fault : goal.returns-in-Err-begin_line-clause-fault
returns-in-Err-begin_line-clause-fault c =
    let rest = c.loop-at.rest.now in
    takes_fault c.args.self.now c.loop-at.self c.args.piece.now rest rest [] c.in-Err-begin_line.fault c.loop-at.invariant (sym (append-nil rest)) c.in-Err-begin_line.ensures.fault
