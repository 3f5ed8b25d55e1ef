use Rattle.std.proofs.Common.{ℕ, subst}
use Rattle.px_rule.specs.Table.{bank_in, version_in}
use Rattle.px_rule.specs.Kept.{KeyBlocked}
use Rattle.px_intern.proofs.Growing.{proper_step}
use Rattle.px_intern.proofs.steps.put.Goals as goal

pub seek-requires-clause-word : goal.seek-requires-clause-word
seek-requires-clause-word g c shape =
    let v = c.args.seat.now.view in
    let s = c.requires.step in
    let f = c.requires.fields in
    proper_step g.L.Law.right c.args.shared.now.shape (bank_in v.stay.place) (version_in v.stay.place) c.step_word-word.result v shape
    (c.args.op, c.args.a, c.args.b, c.args.r, s.first, s.second, s.answer, f.0, f.1, f.2, c.step_word-word.ensures.word, s.first_is, s.second_is, s.answer_is, s.is_right)

pub returns-in-Blocked-clause-answer : goal.returns-in-Blocked-clause-answer
returns-in-Blocked-clause-answer g c =
    let v = c.args.seat.now.view in
    let word = c.step_word-word.ensures.word in
    (word, subst (λ (x : ℕ). KeyBlocked c.args.shared.now.shape (bank_in v.stay.place) (version_in v.stay.place) x c.seek.new.seat.view) word c.in-Blocked.ensures.answer)
