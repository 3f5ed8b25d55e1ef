use Rattle.px_rule.proofs.LoadAccept.{accepts}
use Rattle.px_rule.proofs.Bounds.{some_word}
use Rattle.px_rule.proofs.table.Table.accept.Goals as goal

pub fetch_add-requires : goal.fetch_add-requires
fetch_add-requires g c =
    let z = c.args.self.now.words.shared.key in
    (c.requires.table, some_word c.args.self.now.shape _ c.args.self.now.sized, accepts g.L.Law.who g.L.Law.legal g.L.Law.right z g.L.Law.legal_short _ _ c.args.desk.now.me c.args.entry.now c.requires.desk c.requires.permit c.requires.legal)
