-- Up to the first line feed.
use Rattle.std.proofs.Common.{◌≡◌, true, false, sym, ◌∙◌}
use Rattle.px_reader.proofs.Feeds.{feed_none, feed_found}
use Rattle.px_reader.proofs.lines.line_length.Goals as goal

pub unreachable-requires : goal.unreachable-requires
unreachable-requires c = let f : true ≡ false = sym (feed_none c.args.bytes.now c.in-None.ensures) ∙ c.requires in cc

pub returns-clause-line : goal.returns-clause-line
returns-clause-line c = let found = c.in-Some.ensures in feed_found c.args.bytes.now c.in-Some.feed found.0.high found.0.before found.1
