use Rattle.px_serial.proofs.Changing.{behind, counted, may_come}
use Rattle.px_serial.proofs.changes.accept.Goals as goal

pub append-requires-clause-legal : goal.append-requires-clause-legal
append-requires-clause-legal c = may_come c.args.journal.now.changes c.reserve.new.self.changes c.args.change c.reserve.ensures.same c.requires.legal

pub returns-clause-version : goal.returns-clause-version
returns-clause-version c =
    counted c.args.journal.now.changes c.reserve.new.self.changes c.append.new.self.changes c.args.change c.append.result c.reserve.ensures.same c.append.ensures.accepted c.append.ensures.version

pub returns-clause-history : goal.returns-clause-history
returns-clause-history c = behind c.args.journal.now.changes c.reserve.new.self.changes c.append.new.self.changes c.args.change c.reserve.ensures.same c.append.ensures.accepted
