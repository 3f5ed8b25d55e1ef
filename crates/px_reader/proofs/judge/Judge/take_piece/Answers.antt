-- Line after line of the piece is read, and then what is left of it.
use Rattle.std.proofs.Common.{◌++◌, ◌-◌, ◌+◌, length, take, drop, List, ℕ, [], refl, append-nil, sym, ◌∙◌}
use Rattle.std.proofs.lemmas.Result.{err_from_is_err_and, on_ok_weaker, IfErr-weaker}
use Rattle.px_reader.specs.declared.event.Event.{Event}
use Rattle.px_reader.specs.Reading.{HasRead, IsFirstFault}
use Rattle.px_reader.proofs.Feeds.{feed_none, feed_found}
use Rattle.px_reader.proofs.Feeding.{reads_to_start, reads_to_more, reads_to_end, reads_to_gives, reads_to_fault, cut_at}
use Rattle.px_reader.specs.Progressing.{progress}
use Rattle.px_reader.proofs.Stopping.{appends_none, appends_on, reads_to_stops, rest_stops}
use Rattle.px_reader.proofs.judge.Judge.take_piece.Goals as goal

pub loop-feed-init : goal.loop-feed-init
loop-feed-init c = record { same = refl; reads = reads_to_start (progress c.args.self.now) c.args.piece.now c.args.out.now.items; appends = appends_none c.args.out.now.items c.args.out.now.items refl }

pub end_line-requires : goal.end_line-requires
end_line-requires c =
    let found = c.in-Some.ensures in feed_found c.loop-feed.rest.now c.in-Some.feed found.0.high found.0.before found.1

pub returns-in_err-end_line-clause-gives : goal.returns-in_err-end_line-clause-gives
returns-in_err-end_line-clause-gives c =
    reads_to_gives (progress c.args.self.now) (progress c.loop-feed.self) c.args.piece.now c.loop-feed.rest.now c.args.out.now.items c.loop-feed.out.items c.end_line.new.out.items c.loop-feed.invariant.reads c.in_err-end_line.ensures.kept

pub returns-in_err-end_line-clause-fault : goal.returns-in_err-end_line-clause-fault
returns-in_err-end_line-clause-fault c =
    let end = c.in-Some.feed + 1 in
    let rest = c.loop-feed.rest.now in
    let answer = err_from_is_err_and c.from_residual.result c.from_residual.ensures.1 in
    rw (answer.1, answer.2)
    (reads_to_fault (progress c.args.self.now) (progress c.loop-feed.self) c.args.piece.now rest (take end rest) (take (length rest - end) (drop end rest)) c.args.out.now.items c.loop-feed.out.items c.in_err-end_line.field-0.0
    c.loop-feed.invariant.reads (cut_at end rest) c.in_err-end_line.ensures.fault)

pub loop-feed-preserved : goal.loop-feed-preserved
loop-feed-preserved c =
    let end = c.in-Some.feed + 1 in
    let rest = c.loop-feed.rest.now in
    record {
      same = c.in_ok-end_line.ensures.same ∙ c.loop-feed.invariant.same;
      reads = reads_to_more (progress c.args.self.now) (progress c.loop-feed.self) (progress c.end_line.new.self) c.args.piece.now rest (take end rest) (take (length rest - end) (drop end rest))
          c.args.out.now.items c.loop-feed.out.items c.end_line.new.out.items c.loop-feed.invariant.reads (cut_at end rest) c.in_ok-end_line.ensures.reads;
      appends = appends_on c.args.out.now.items c.loop-feed.out.items c.end_line.new.out.items c.loop-feed.invariant.appends c.in_ok-end_line.ensures.appends;
    }

pub begin_line-requires : goal.begin_line-requires
begin_line-requires c = feed_none c.loop-feed.rest.now c.in_default.ensures

pub returns-clause-reads : goal.returns-clause-reads
returns-clause-reads c =
    on_ok_weaker c.begin_line.result
    (λ on. reads_to_end (progress c.args.self.now) (progress c.loop-feed.self) (progress c.begin_line.new.self) c.args.piece.now c.loop-feed.rest.now c.args.out.now.items c.loop-feed.out.items c.loop-feed.invariant.reads on)
    c.begin_line.ensures.reads

pub returns-clause-gives : goal.returns-clause-gives
returns-clause-gives c =
    reads_to_gives (progress c.args.self.now) (progress c.loop-feed.self) c.args.piece.now c.loop-feed.rest.now c.args.out.now.items c.loop-feed.out.items c.loop-feed.out.items c.loop-feed.invariant.reads refl

pub returns-clause-fault : goal.returns-clause-fault
returns-clause-fault c =
    IfErr-weaker c.begin_line.result
    (λ fault. (bytes : List ℕ) (given : List Event) → HasRead (progress c.loop-feed.self) bytes given → IsFirstFault (bytes ++ c.loop-feed.rest.now) fault)
    (λ fault. (bytes : List ℕ) (given : List Event) → HasRead (progress c.args.self.now) bytes given → IsFirstFault (bytes ++ c.args.piece.now) fault)
    (λ fault on. reads_to_fault (progress c.args.self.now) (progress c.loop-feed.self) c.args.piece.now c.loop-feed.rest.now c.loop-feed.rest.now [] c.args.out.now.items c.loop-feed.out.items fault
    c.loop-feed.invariant.reads (sym (append-nil c.loop-feed.rest.now)) on)
    c.begin_line.ensures.fault

pub returns-in_err-end_line-clause-appends : goal.returns-in_err-end_line-clause-appends
returns-in_err-end_line-clause-appends c =
    appends_on c.args.out.now.items c.loop-feed.out.items c.end_line.new.out.items c.loop-feed.invariant.appends c.in_err-end_line.ensures.appends

pub returns-in_err-end_line-clause-stops : goal.returns-in_err-end_line-clause-stops
returns-in_err-end_line-clause-stops c =
    let end = c.in-Some.feed + 1 in
    let rest = c.loop-feed.rest.now in
    let answer = err_from_is_err_and c.from_residual.result c.from_residual.ensures.1 in
    rw (answer.1, answer.2)
    (reads_to_stops (progress c.args.self.now) (progress c.loop-feed.self) c.args.piece.now rest c.args.out.now.items c.loop-feed.out.items c.end_line.new.out.items c.in_err-end_line.field-0.0
    c.loop-feed.invariant.reads c.in_err-end_line.ensures.kept c.in_err-end_line.ensures.line
    (reads_to_fault (progress c.args.self.now) (progress c.loop-feed.self) c.args.piece.now rest (take end rest) (take (length rest - end) (drop end rest)) c.args.out.now.items c.loop-feed.out.items c.in_err-end_line.field-0.0
    c.loop-feed.invariant.reads (cut_at end rest) c.in_err-end_line.ensures.fault))

pub returns-clause-small : goal.returns-clause-small
returns-clause-small c =
    on_ok_weaker c.begin_line.result
    (λ on bytes given h.
    (reads_to_end (progress c.args.self.now) (progress c.loop-feed.self) (progress c.begin_line.new.self) c.args.piece.now c.loop-feed.rest.now c.args.out.now.items c.loop-feed.out.items c.loop-feed.invariant.reads on
    bytes given h).2.reading.small)
    c.begin_line.ensures.reads

pub returns-clause-appends : goal.returns-clause-appends
returns-clause-appends c = c.loop-feed.invariant.appends

pub returns-clause-stops : goal.returns-clause-stops
returns-clause-stops c =
    rest_stops c.begin_line.result (progress c.args.self.now) (progress c.loop-feed.self) c.args.piece.now c.loop-feed.rest.now c.args.out.now.items c.loop-feed.out.items c.loop-feed.out.items
    c.loop-feed.invariant.reads refl (returns-clause-fault c) c.begin_line.ensures.line
