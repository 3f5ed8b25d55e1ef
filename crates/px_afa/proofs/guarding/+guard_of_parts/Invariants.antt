use Rattle.std.proofs.Common.{length}
use Rattle.px_afa.proofs.guarding.+guard_of_parts.Given as goal

abbrev pub decreases-guard_of_parts : goal.decreases-guard_of_parts
decreases-guard_of_parts l = length l.parts.now
