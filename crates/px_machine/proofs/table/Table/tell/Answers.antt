use Rattle.px_machine.proofs.Tabled.{told-more}
use Rattle.px_machine.proofs.table.Table.tell.Goals as goal

pub returns : goal.returns
returns c = record {
  only = told-more c.args.self.now.entries.items c.make_room.new.self.entries.items c.write.new.entries.items c.args.first c.args.second c.args.answer c.in_ok-make_room.ensures.only c.write.ensures.only;
}
