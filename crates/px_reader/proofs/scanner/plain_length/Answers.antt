-- Up to the first line feed, if no backslash comes before it.
use Rattle.px_reader.proofs.Plainness.{plain_by}
use Rattle.px_reader.proofs.scanner.plain_length.Goals as goal

pub returns : goal.returns
returns c =
    let found = c.in_ok-count.ensures in
    let feed = c.has_feed.ensures c.if-not-has_feed.false in
    plain_by c.args.bytes.now c.in_ok-count.count feed.0 found.0.before feed.1 (c.has_return_before.ensures c.if-has_return_before.false)
