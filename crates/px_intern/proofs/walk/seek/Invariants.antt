use Rattle.std.proofs.Common.{◌≡◌, ◌≤◌, ◌<◌, ◌+◌, ◌*◌}
use Rattle.px_rule.specs.Words.{key_of, size_of, path_of}
use Rattle.px_rule.specs.Kept.{Grew}
use Rattle.px_intern.specs.Answers.{IsSound, WroteOnly}
use Rattle.px_rule.specs.Table.{bank_in, version_in}
use Rattle.px_rule.specs.Kept.{PassedBy}
use Rattle.px_intern.proofs.walk.seek.Given as goal

abbrev pub invariant-loop-turn : goal.invariant-loop-turn
invariant-loop-turn g l = (let v = l.initial.seat.view in
    (l.seat.table ≡ l.initial.seat.table) × Grew v l.seat.view × PassedBy l.shared.shape (bank_in v.stay.place) (version_in v.stay.place) l.word l.turn l.seat.view × (0 < l.turn → IsSound g.L.Law.right l.shared.shape l.seat.view)
    × WroteOnly l.word v l.seat.view × (l.seat.view.touch.touches ≤ v.touch.touches + l.turn * 2)
    × (l.at ≡ path_of l.shared.shape (key_of l.word) l.turn) × (l.at < size_of l.shared.shape))
