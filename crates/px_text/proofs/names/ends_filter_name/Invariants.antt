use Rattle.std.proofs.Common.{◌≡◌, drop}
use Rattle.px_text.specs.Names.{ends_filter_name}
use Rattle.px_text.proofs.names.ends_filter_name.Given as goal

abbrev pub invariant-loop-at : goal.invariant-loop-at
invariant-loop-at l = ends_filter_name l.text ≡ ends_filter_name (drop l.at l.text)
