-- Each command runs in its form.
use Rattle.std.proofs.Common.{Some, refl, sym, subst, arith}
use Rattle.xpush.specs.declared.hub_words.HubCommand.{HubCommand}
use Rattle.xpush.specs.Answers.{Ran, moment}
use Rattle.xpush.specs.Forms.{Loads, Serves, hub_form}
use Rattle.xpush.proofs.Runs.{feed_front, load_front, ran, never_usage, never_read_fault}
use Rattle.xpush.proofs.run.run_command.Goals as goal

pub returns-in-Feed : goal.returns-in-Feed
returns-in-Feed g c =
    let left = g.S.Source.left c.args.source.now in
    let held = g.K.Sink.held c.args.sink.now in
    let before = moment left held (g.S.Source.faults c.args.source.now) (g.K.Sink.faults c.args.sink.now) in
    let after = moment (g.S.Source.left c.feed.new.source) (g.K.Sink.held c.feed.new.sink) (g.S.Source.faults c.feed.new.source) (g.K.Sink.faults c.feed.new.sink) in
    let said = c.feed.ensures in
    let hub = Some c.in-Feed.config in
    let P : HubCommand → Type 0 = λ command. Ran (hub_form command) before after c.feed.result in
    subst P (sym c.in-Feed.is)
    (ran (Serves hub) before after c.feed.result said.not_usage said.output (λ t. feed_front hub left held (g.K.Sink.held c.feed.new.sink) (said.front t))
    said.whole_items (λ n. absurd (cc)) said.read_fault said.write_fault said.source_counts said.sink_counts)

pub returns-in-Load : goal.returns-in-Load
returns-in-Load g c =
    let left = g.S.Source.left c.args.source.now in
    let held = g.K.Sink.held c.args.sink.now in
    let before = moment left held (g.S.Source.faults c.args.source.now) (g.K.Sink.faults c.args.sink.now) in
    let after = moment left (g.K.Sink.held c.load.new.sink) (g.S.Source.faults c.args.source.now) (g.K.Sink.faults c.load.new.sink) in
    let said = c.load.ensures in
    let one = c.in-Load.feed in
    let hub = c.in-Load.config in
    let P : HubCommand → Type 0 = λ command. Ran (hub_form command) before after c.load.result in
    subst P (sym c.in-Load.is)
    (ran (Loads one.seed one.filters one.documents hub) before after c.load.result (never_usage c.load.result said.ends)
    (λ t. record { loaded = said.output t; unread = refl }) (λ t. load_front one.seed one.filters one.documents hub left held (g.K.Sink.held c.load.new.sink) (said.front t))
    (λ f. absurd (never_read_fault c.load.result said.ends f)) (λ n. refl) (λ f. absurd (never_read_fault c.load.result said.ends f)) said.write_fault (omega arith)
    said.sink_counts)
