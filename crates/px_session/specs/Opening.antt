-- What opening a session gives.
use Rattle.std.specs.Prelude.{[]}
use Rattle.px_rule.specs.Table.{TableName}
use Rattle.px_hub.specs.Passes.{PassView}
use Rattle.px_hub.specs.Replying.{Stays}
use Rattle.px_hub.specs.OpenCalls.{IsInsideOrNot}
use Rattle.px_session.specs.declared.opening.Opened.{Opened}
use Rattle.px_session.specs.declared.opening.Opened.TheVariants.{Open, NoMemory}
use Rattle.px_session.specs.Sessions.{IsFed}

-- the session was fed nothing, and its pass is inside its bank or has its cause not to be; or the pass is in no bank
abbrev pub Opens : {N : Type 0} → TableName → PassView → Opened N → Type 0
Opens table v (Open session) = IsFed table v session [] [] × IsInsideOrNot v session.pass
Opens table v (NoMemory pass) = Stays v pass
