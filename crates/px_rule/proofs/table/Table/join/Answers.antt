use Rattle.std.proofs.Common.{◌∙◌}
use Rattle.px_rule.proofs.SplitJoin.{joins}
use Rattle.px_rule.proofs.LoadAccept.{tells}
use Rattle.px_rule.proofs.Bounds.{some_word}
use Rattle.px_rule.proofs.table.Table.join.Goals as goal

pub join_seat-requires : goal.join_seat-requires
join_seat-requires g c =
    let z = c.args.self.now.words.shared.key in
    let t = c.requires.tables in
    (t.0, t.1, t.2, some_word c.args.self.now.shape _ c.args.self.now.sized, joins g.L.Law.who g.L.Law.legal g.L.Law.right z c.args.seat.now.id c.args.seat.now.me.0 c.args.note.id c.args.note.me.0 c.requires.pair)

pub load-requires : goal.load-requires
load-requires g c =
    let z = c.args.self.now.words.shared.key in
    let seat = c.join_seat.new.seat in
    let slots = c.args.self.now.words.shared.table_id.slots in
    (c.join_seat.ensures.0 ∙ c.requires.tables.0, some_word c.args.self.now.shape _ c.args.self.now.sized, tells g.L.Law.who g.L.Law.legal g.L.Law.right z g.L.Law.legal_short slots seat.id seat.me)
