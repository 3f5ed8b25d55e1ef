-- Each item is answered by its call.
use Rattle.std.proofs.Common.{sym, subst}
use Rattle.px_feed.specs.declared.item.Item.{Item}
use Rattle.px_lines.specs.Standing.{streams}
use Rattle.px_serial.specs.Standing.{ServesItem}
use Rattle.px_serial.proofs.serving.Serving.serve.Goals as goal

pub returns-in-Add-clause-serves : goal.returns-in-Add-clause-serves
returns-in-Add-clause-serves g c =
    let before = streams (g.S.Source.left c.args.source.now) (g.K.Sink.held c.args.sink.now) (g.S.Source.faults c.args.source.now) in
    let now = streams (g.S.Source.left c.add.new.source) (g.K.Sink.held c.add.new.sink) (g.S.Source.faults c.add.new.source) in
    let P : Item → Type 0 = λ item. ServesItem item c.add.result c.args.self.now c.add.new.self before now in
    subst P (sym c.in-Add.is) c.add.ensures.serves

pub returns-in-Remove-clause-serves : goal.returns-in-Remove-clause-serves
returns-in-Remove-clause-serves g c =
    let before = streams (g.S.Source.left c.args.source.now) (g.K.Sink.held c.args.sink.now) (g.S.Source.faults c.args.source.now) in
    let now = streams (g.S.Source.left c.remove.new.source) (g.K.Sink.held c.remove.new.sink) (g.S.Source.faults c.remove.new.source) in
    let P : Item → Type 0 = λ item. ServesItem item c.remove.result c.args.self.now c.remove.new.self before now in
    subst P (sym c.in-Remove.is) c.remove.ensures.serves

pub returns-in-Replace-clause-serves : goal.returns-in-Replace-clause-serves
returns-in-Replace-clause-serves g c =
    let before = streams (g.S.Source.left c.args.source.now) (g.K.Sink.held c.args.sink.now) (g.S.Source.faults c.args.source.now) in
    let now = streams (g.S.Source.left c.replace.new.source) (g.K.Sink.held c.replace.new.sink) (g.S.Source.faults c.replace.new.source) in
    let P : Item → Type 0 = λ item. ServesItem item c.replace.result c.args.self.now c.replace.new.self before now in
    subst P (sym c.in-Replace.is) c.replace.ensures.serves

pub returns-in-Document-clause-serves : goal.returns-in-Document-clause-serves
returns-in-Document-clause-serves g c =
    let before = streams (g.S.Source.left c.args.source.now) (g.K.Sink.held c.args.sink.now) (g.S.Source.faults c.args.source.now) in
    let now = streams (g.S.Source.left c.filter.new.source) (g.K.Sink.held c.filter.new.sink) (g.S.Source.faults c.filter.new.source) in
    let P : Item → Type 0 = λ item. ServesItem item c.filter.result c.args.self.now c.filter.new.self before now in
    subst P (sym c.in-Document.is) c.filter.ensures.serves
