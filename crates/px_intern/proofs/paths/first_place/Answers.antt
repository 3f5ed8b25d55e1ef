use Rattle.std.proofs.Common.{◌<◌, ◌≤◌, ℕ, arith}
use Rattle.px_rule.specs.Words.{key_of, long_of}
use Rattle.px_rule.proofs.Paths.{long_wide}
use Rattle.px_intern.proofs.paths.first_place.Goals as goal

pub place-requires-clause-turn : goal.place-requires-clause-turn
place-requires-clause-turn g c =
    let n : ℕ = long_of c.shape.result (key_of c.args.word) in
    let wide : 15 ≤ n = long_wide c.shape.result (key_of c.args.word) c.shape.ensures.lawful in
    let r : 0 < n = omega arith in r
