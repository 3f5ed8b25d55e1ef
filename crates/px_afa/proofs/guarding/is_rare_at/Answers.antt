use Rattle.px_afa.proofs.GuardTables.{rare_some, rare_none}
use Rattle.px_afa.proofs.guarding.is_rare_at.Goals as goal

pub returns-in-Some : goal.returns-in-Some
returns-in-Some c = record { it = rare_some c.args.older.now c.args.n c.in-Some.state.now c.is_rare.result c.in-Some.ensures.lookup.3.0 c.in-Some.ensures.lookup.1 c.is_rare.ensures.it }

pub returns-in-None : goal.returns-in-None
returns-in-None c = record { it = rare_none c.args.older.now c.args.n c.in-None.ensures.lookup.3 }
