use Rattle.std.proofs.Common.{[], inl}
use Rattle.px_session.proofs.pieces.filter_pieces.Goals as goal

pub open-requires : goal.open-requires
open-requires g c = c.requires

pub returns-in-Open : goal.returns-in-Open
returns-in-Open g c = c.feed_and_end.ensures c.args.pass (inl ([], c.in-Open.ensures.0))

pub returns-in-NoMemory : goal.returns-in-NoMemory
returns-in-NoMemory g c = c.in-NoMemory.ensures
