use Rattle.std.proofs.Common.{[]}
use Rattle.px_reader.specs.Lines.{lines_of}
use Rattle.px_feed.proofs.Total.{gives-some}
use Rattle.px_feed.proofs.laws.every_feed_has_items.Goals as goal

pub returns : goal.returns
returns c = λ bytes. gives-some [] (lines_of bytes)
