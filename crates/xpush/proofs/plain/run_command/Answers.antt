-- Each command runs in its form.
use Rattle.std.proofs.Common.{None, refl, sym, subst, arith}
use Rattle.xpush.specs.declared.words.Command.{Command}
use Rattle.xpush.specs.Answers.{Ran, moment}
use Rattle.xpush.specs.Forms.{Explains, Makes, Matches, Serves, Shows, Verifies, form}
use Rattle.xpush.proofs.Runs.{feed_front, ran, never_usage, never_read_fault}
use Rattle.xpush.proofs.plain.run_command.Goals as goal

pub returns-in-Match : goal.returns-in-Match
returns-in-Match g c =
    let before = moment (g.S.Source.left c.args.source.now) (g.K.Sink.held c.args.sink.now) (g.S.Source.faults c.args.source.now) (g.K.Sink.faults c.args.sink.now) in
    let after = moment (g.S.Source.left c.match_document.new.source) (g.K.Sink.held c.match_document.new.sink) (g.S.Source.faults c.match_document.new.source) (g.K.Sink.faults c.match_document.new.sink) in
    let P : Command → Type 0 = λ command. Ran (form command) before after c.match_document.result in
    subst P (sym c.in-Match.is)
    (ran (Matches c.in-Match.filter.now) before after c.match_document.result c.match_document.ensures.not_usage c.match_document.ensures.output c.match_document.ensures.front (λ f. (c.match_document.ensures.not_at_fault f, c.match_document.ensures.unwritten f)) (λ n. absurd (cc)) c.match_document.ensures.read_fault c.match_document.ensures.write_fault c.match_document.ensures.source_counts c.match_document.ensures.sink_counts)

pub returns-in-Show : goal.returns-in-Show
returns-in-Show g c =
    let before = moment (g.S.Source.left c.args.source.now) (g.K.Sink.held c.args.sink.now) (g.S.Source.faults c.args.source.now) (g.K.Sink.faults c.args.sink.now) in
    let after = moment (g.S.Source.left c.args.source.now) (g.K.Sink.held c.show_filter.new.sink) (g.S.Source.faults c.args.source.now) (g.K.Sink.faults c.show_filter.new.sink) in
    let P : Command → Type 0 = λ command. Ran (form command) before after c.show_filter.result in
    subst P (sym c.in-Show.is)
    (ran (Shows c.in-Show.filter.now) before after c.show_filter.result (never_usage c.show_filter.result c.show_filter.ensures.ends) (λ t. c.show_filter.ensures.output t (g.S.Source.left c.args.source.now)) (λ t. c.show_filter.ensures.front t (g.S.Source.left c.args.source.now))
    (λ f. absurd (never_read_fault c.show_filter.result c.show_filter.ensures.ends f)) (λ n. refl) (λ f. absurd (never_read_fault c.show_filter.result c.show_filter.ensures.ends f)) c.show_filter.ensures.write_fault (omega arith) c.show_filter.ensures.sink_counts)

pub returns-in-Explain : goal.returns-in-Explain
returns-in-Explain g c =
    let before = moment (g.S.Source.left c.args.source.now) (g.K.Sink.held c.args.sink.now) (g.S.Source.faults c.args.source.now) (g.K.Sink.faults c.args.sink.now) in
    let after = moment (g.S.Source.left c.explain_document.new.source) (g.K.Sink.held c.explain_document.new.sink) (g.S.Source.faults c.explain_document.new.source) (g.K.Sink.faults c.explain_document.new.sink) in
    let P : Command → Type 0 = λ command. Ran (form command) before after c.explain_document.result in
    subst P (sym c.in-Explain.is)
    (ran (Explains c.in-Explain.filter.now) before after c.explain_document.result c.explain_document.ensures.not_usage c.explain_document.ensures.output c.explain_document.ensures.front (λ f. (c.explain_document.ensures.not_at_fault f, c.explain_document.ensures.unwritten f)) (λ n. absurd (cc)) c.explain_document.ensures.read_fault c.explain_document.ensures.write_fault c.explain_document.ensures.source_counts c.explain_document.ensures.sink_counts)

pub returns-in-Verify : goal.returns-in-Verify
returns-in-Verify g c =
    let before = moment (g.S.Source.left c.args.source.now) (g.K.Sink.held c.args.sink.now) (g.S.Source.faults c.args.source.now) (g.K.Sink.faults c.args.sink.now) in
    let after = moment (g.S.Source.left c.verify_proof.new.source) (g.K.Sink.held c.verify_proof.new.sink) (g.S.Source.faults c.verify_proof.new.source) (g.K.Sink.faults c.verify_proof.new.sink) in
    let P : Command → Type 0 = λ command. Ran (form command) before after c.verify_proof.result in
    subst P (sym c.in-Verify.is)
    (ran (Verifies c.in-Verify.filter.now) before after c.verify_proof.result c.verify_proof.ensures.not_usage c.verify_proof.ensures.output c.verify_proof.ensures.front (λ f. (c.verify_proof.ensures.not_at_fault f, c.verify_proof.ensures.unwritten f)) (λ n. absurd (cc)) c.verify_proof.ensures.read_fault c.verify_proof.ensures.write_fault c.verify_proof.ensures.source_counts c.verify_proof.ensures.sink_counts)

pub returns-in-Make : goal.returns-in-Make
returns-in-Make g c =
    let before = moment (g.S.Source.left c.args.source.now) (g.K.Sink.held c.args.sink.now) (g.S.Source.faults c.args.source.now) (g.K.Sink.faults c.args.sink.now) in
    let after = moment (g.S.Source.left c.args.source.now) (g.K.Sink.held c.make_feed.new.sink) (g.S.Source.faults c.args.source.now) (g.K.Sink.faults c.make_feed.new.sink) in
    let P : Command → Type 0 = λ command. Ran (form command) before after c.make_feed.result in
    subst P (sym c.in-Make.is)
    (ran (Makes c.in-Make.seed c.in-Make.filters c.in-Make.documents) before after c.make_feed.result (never_usage c.make_feed.result c.make_feed.ensures.ends) (λ t. c.make_feed.ensures.output t (g.S.Source.left c.args.source.now)) (λ t. c.make_feed.ensures.front t (g.S.Source.left c.args.source.now))
    (λ f. absurd (never_read_fault c.make_feed.result c.make_feed.ensures.ends f)) (λ n. refl) (λ f. absurd (never_read_fault c.make_feed.result c.make_feed.ensures.ends f)) c.make_feed.ensures.write_fault (omega arith) c.make_feed.ensures.sink_counts)

pub returns-in-Serial : goal.returns-in-Serial
returns-in-Serial g c =
    let before = moment (g.S.Source.left c.args.source.now) (g.K.Sink.held c.args.sink.now) (g.S.Source.faults c.args.source.now) (g.K.Sink.faults c.args.sink.now) in
    let after = moment (g.S.Source.left c.serve_feed.new.source) (g.K.Sink.held c.serve_feed.new.sink) (g.S.Source.faults c.serve_feed.new.source) (g.K.Sink.faults c.serve_feed.new.sink) in
    let P : Command → Type 0 = λ command. Ran (form command) before after c.serve_feed.result in
    subst P (sym c.in-Serial.is)
    (ran (Serves None) before after c.serve_feed.result c.serve_feed.ensures.not_usage c.serve_feed.ensures.output (λ t. feed_front None (g.S.Source.left c.args.source.now) (g.K.Sink.held c.args.sink.now) (g.K.Sink.held c.serve_feed.new.sink) (c.serve_feed.ensures.front t)) c.serve_feed.ensures.whole_items (λ n. absurd (cc)) c.serve_feed.ensures.read_fault c.serve_feed.ensures.write_fault c.serve_feed.ensures.source_counts c.serve_feed.ensures.sink_counts)
