use Rattle.std.proofs.Common.{arith}
use Rattle.px_crew.proofs.Numbering.{cuts}
use Rattle.px_crew.proofs.source.Source.share.Goals as goal

pub split_seat-requires : goal.split_seat-requires
split_seat-requires c =
    (c.requires.table, omega (arith, c.args.self.now.one_word), cuts c.args.self.now.word.shared.key c.args.seat.now.id c.args.seat.now.me.0 c.requires.parts c.requires.going)
