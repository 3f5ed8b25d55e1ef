use Rattle.px_rule.proofs.SplitJoin.{makes}
use Rattle.px_rule.proofs.Bounds.{some_word}
use Rattle.px_rule.proofs.table.Table.pass.Goals as goal

pub split_seat-requires : goal.split_seat-requires
split_seat-requires g c =
    let z = c.args.self.now.words.shared.key in
    (c.requires.table, some_word c.args.self.now.shape _ c.args.self.now.sized, makes g.L.Law.who g.L.Law.legal g.L.Law.right z c.args.desk.now.id c.args.desk.now.me.0 c.requires.desk c.requires.new c.requires.room)
