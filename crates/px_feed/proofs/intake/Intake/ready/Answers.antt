-- The rest of the piece is taken.
use Rattle.std.proofs.Common.{rules, ◌∙◌, ◌++◌, ◌∷◌, [], ◌-◌, ◌≤◌, ap, sym, subst, take, drop, length, inl, append_assoc, append-nil, arith}
use Rattle.px_feed.specs.Items.{most_bytes}
use Rattle.px_feed.specs.Joining.{HasJoined, FailsOn}
use Rattle.px_feed.specs.Progressing.{progress}
use Rattle.px_feed.specs.Taking.{Ends}
use Rattle.px_feed.proofs.Takings.{rest_of, fails_failure, unread_length, ended_already, not_ended, whole_items, nothing_unread, answers_stop}
use Rattle.px_feed.proofs.intake.Intake.ready.Goals as goal

pub returns-in-Some-clause-takes : goal.returns-in-Some-clause-takes
returns-in-Some-clause-takes c = λ left bytes given t. ended_already (progress c.args.self.now) c.in-Some.ending c.taken.result left bytes given c.in-Some.is c.taken.ensures t

pub returns-in-Item-clause-takes : goal.returns-in-Item-clause-takes
returns-in-Item-clause-takes c = λ left bytes given t.
    let old = c.args.self.now in
    let b = not_ended (progress old) left bytes given c.in_default.is t in
    let xs = old.piece.items in
    let slice = take (old.end - old.at) (drop old.at xs) in
    let same = ap (λ bs. take (old.end - old.at) (drop old.at bs)) c.as_slice.ensures.value in
    let (brought, is, j) = c.in-Item.ensures.brings b.done given b.joined in
    let fits : c.in-Item.used ≤ length slice = subst (λ bs. c.in-Item.used ≤ length bs) same c.in-Item.ensures.within in
    let joined = subst (λ bs. HasJoined c.take.new.self (b.done ++ take c.in-Item.used bs) (given ++ brought ∷ [])) same j in
    let all = b.bytes_are ∙ ap (λ bs. b.done ++ bs) (rest_of old.at old.end c.in-Item.used xs old.ordered old.filled fits) ∙ sym (append_assoc b.done (take c.in-Item.used slice) _) in
    (brought, is, inl (record { done = b.done ++ take c.in-Item.used slice; bytes_are = all; joined = joined; going = b.going }))

pub returns-in-Nothing-clause-takes : goal.returns-in-Nothing-clause-takes
returns-in-Nothing-clause-takes c = λ left bytes given t.
    let old = c.args.self.now in
    let b = not_ended (progress old) left bytes given c.in_default.is t in
    let same = ap (λ bs. take (old.end - old.at) (drop old.at bs)) c.as_slice.ensures.value in
    let joined = subst (λ bs. HasJoined c.take.new.self bs given) (ap (λ bs. b.done ++ bs) same ∙ sym b.bytes_are) (c.in-Nothing.ensures.brings b.done given b.joined) in
    let all = sym (append-nil bytes) ∙ ap (λ bs. bytes ++ bs) (sym (nothing_unread old.end old.piece.items)) in
    record { done = bytes; bytes_are = all; joined = joined; going = b.going }

pub returns-in-Nothing-clause-whole : goal.returns-in-Nothing-clause-whole
returns-in-Nothing-clause-whole c = λ none left bytes given t.
    let old = c.args.self.now in
    let new = c.take.new.self in
    let b = not_ended (progress old) left bytes given c.in_default.is t in
    let same = ap (λ bs. take (old.end - old.at) (drop old.at bs)) c.as_slice.ensures.value in
    let joined = subst (λ bs. HasJoined new bs given) (ap (λ bs. b.done ++ bs) same ∙ sym b.bytes_are) (c.in-Nothing.ensures.brings b.done given b.joined) in
    let w = new.within in
    let fits : new.cutter.extent.bytes ≤ most_bytes = omega arith in
    whole_items _ _ _ new.kept.items new.begun bytes given joined fits

pub returns-in-Failed-clause-takes : goal.returns-in-Failed-clause-takes
returns-in-Failed-clause-takes c = λ left bytes given t.
    let old = c.args.self.now in
    let b = not_ended (progress old) left bytes given c.in_default.is t in
    let same = ap (λ bs. take (old.end - old.at) (drop old.at bs)) c.as_slice.ensures.value in
    let fails = subst (λ bs. FailsOn bs given c.in-Failed.failure) (ap (λ bs. b.done ++ bs) same ∙ sym b.bytes_are) (c.in-Failed.ensures.brings b.done given b.joined) in
    let ends = subst (λ ending. Ends ending left bytes given) (sym c.of.ensures) (fails_failure c.in-Failed.failure left bytes given fails) in
    answers_stop c.of.result c.stop.result (progress c.stop.new.self) left bytes given c.stop.ensures.answer ends

pub overflow_add-self : goal.overflow_add-self
overflow_add-self c =
    let old = c.args.self.now in
    let l = ap (λ bs. length (take (old.end - old.at) (drop old.at bs))) c.as_slice.ensures.value ∙ unread_length old.at old.end old.piece.items old.ordered old.filled in
    let w = c.in-Item.ensures.within in
    let o = old.ordered in
    let f = old.filled in
    let s = old.sized in
    search (rules, l, w, o, f, s)
