use Rattle.std.proofs.Common.{arith}
use Rattle.px_crew.proofs.Numbering.{joins}
use Rattle.px_crew.proofs.source.Source.join.Goals as goal

pub join_seat-requires : goal.join_seat-requires
join_seat-requires c =
    (c.requires.table, c.requires.other, c.requires.rest, omega (arith, c.args.self.now.one_word), joins c.args.self.now.word.shared.key c.args.seat.now.id c.args.seat.now.me.0 c.args.other.id c.args.other.me.0)
