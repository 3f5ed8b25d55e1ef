-- The hub is named for its table and its passes.
use Rattle.px_parallel.proofs.making.feed.Given as goal

abbrev pub ghosts-feed_named : goal.ghosts-feed_named
ghosts-feed_named g a = record { table = a.parts.shared; passes = a.parts.passes }
