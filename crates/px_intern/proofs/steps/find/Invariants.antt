use Rattle.std.proofs.Common.{◌≡◌, ◌+◌, ◌<◌}
use Rattle.px_rule.specs.Table.{bank_in, version_in}
use Rattle.px_rule.specs.Words.{key_of, size_of, path_of}
use Rattle.px_rule.specs.Kept.{Grew, PassedBy}
use Rattle.px_intern.specs.Answers.{IsSound}
use Rattle.px_intern.proofs.steps.find.Given as goal

abbrev pub invariant-loop-turn : goal.invariant-loop-turn
invariant-loop-turn g l = (let v = l.initial.seat.view in let k = bank_in v.stay.place in let n = version_in v.stay.place in
    (l.seat.table ≡ l.initial.seat.table) × Grew v l.seat.view × PassedBy l.shared.shape k n l.key l.turn l.seat.view
    × (0 < l.turn → IsSound g.L.Law.right l.shared.shape l.seat.view)
    × (l.seat.view.touch.wrote ≡ v.touch.wrote)
    × (l.seat.view.touch.touches ≡ v.touch.touches + l.turn)
    × (l.at ≡ path_of l.shared.shape (key_of l.key) l.turn) × (l.at < size_of l.shared.shape))
