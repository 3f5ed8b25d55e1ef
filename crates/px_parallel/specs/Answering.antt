-- The line for a reply.
use Rattle.px_feed.specs.declared.line.OutLine.{OutLine}
use Rattle.px_feed.specs.declared.line.OutLine.TheVariants.{Matched}
use Rattle.px_hub.specs.declared.reply.Reply.{Reply}

-- the version, and the ids of the filters that hold
abbrev pub line_for : Reply → OutLine
line_for reply = Matched reply.version reply.ids
