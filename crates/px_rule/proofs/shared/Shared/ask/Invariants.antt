use Rattle.std.proofs.Common.{Some}
use Rattle.px_rule.proofs.shared.Shared.ask.Given as goal

abbrev pub ghosts-ask : goal.ghosts-ask
ghosts-ask g a = record { entry = Some a.entry.now }
