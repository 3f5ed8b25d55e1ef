-- The line is one more whole line.
use Rattle.std.proofs.Common.{true, ◌≡◌, sym, subst}
use Rattle.px_reader.specs.Lines.{is_whole}
use Rattle.px_reader.proofs.Recording.{lines_with, whole_with, ended_some, recorded_fine}
use Rattle.px_reader.proofs.recorder.Recorder.add.Goals as goal

pub take_line-requires-clause-line : goal.take_line-requires-clause-line
take_line-requires-clause-line c = lines_with c.self.inside.bytes.items c.args.line.now c.self.invariant.whole c.requires.ended

pub take_line-requires-clause-some : goal.take_line-requires-clause-some
take_line-requires-clause-some c = ended_some c.args.line.now c.requires.ended

pub invariant_of-self : goal.invariant_of-self
invariant_of-self c = record {
  records = c.in-Ok.ensures.records;
  whole = subst (λ bs. is_whole bs ≡ true) (sym c.in-Ok.ensures.same) (whole_with c.self.inside.bytes.items c.args.line.now c.requires.ended);
}

pub returns-in-Ok-clause-fine : goal.returns-in-Ok-clause-fine
returns-in-Ok-clause-fine c = let new = c.take_line.new in recorded_fine new.scanner new.bytes.items new.events c.in-Ok.ensures.records
