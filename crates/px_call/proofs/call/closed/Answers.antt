use Rattle.std.proofs.Common.{◌∙◌, ap}
use Rattle.px_rule.specs.declared.view.Stay.{Stay}
use Rattle.px_rule.specs.Table.{is_inside}
use Rattle.px_call.proofs.Readings.{program_grew}
use Rattle.px_call.proofs.Running.{sound_of, ran_before, runs_out}
use Rattle.std.proofs.lemmas.Result.{IfOk-weaker}
use Rattle.px_reader.specs.Spelling.{events_of}
use Rattle.px_call.specs.Memory.{program_of}
use Rattle.px_call.proofs.call.closed.Goals as goal

pub new-memo-requires-clause-table : goal.new-memo-requires-clause-table
new-memo-requires-clause-table g c = c.requires.table.0

pub new-memo-requires-clause-began : goal.new-memo-requires-clause-began
new-memo-requires-clause-began g c = c.requires.table.1

pub new-memo-requires-clause-grew : goal.new-memo-requires-clause-grew
new-memo-requires-clause-grew g c = c.requires.grew

pub new-memo-requires-clause-inside : goal.new-memo-requires-clause-inside
new-memo-requires-clause-inside g c = ap (λ (s : Stay). is_inside s.place) c.requires.grew.stay ∙ c.requires.inside

pub new-memo-requires-clause-program : goal.new-memo-requires-clause-program
new-memo-requires-clause-program g c = program_grew g.L.ProgramLaw.automata_of g.C.Entry.began.view c.args.seat.view c.requires.grew c.args.compiled.now c.requires.program

pub new-memo-requires-clause-sound : goal.new-memo-requires-clause-sound
new-memo-requires-clause-sound g c =
    sound_of g.L.Law.right c.args.compiled.now g.C.Entry.began c.args.seat c.args.tally (events_of c.requires.running.0) c.args.shared.now c.requires.table.0 c.requires.table.1 c.requires.grew c.requires.running.1.counts

pub finish-ids-requires : goal.finish-ids-requires
finish-ids-requires g c = record {
  whole = (
    c.requires.running.0,
    ran_before g.L.Law.right c.args.compiled.now g.C.Entry.began c.args.seat c.args.tally c.new-memo.result c.new-memo.ensures.memo c.args.runner (events_of c.requires.running.0) c.requires.running.1,
  );
}

pub returns-clause-table : goal.returns-clause-table
returns-clause-table g c = c.end-seat.ensures.table

pub returns-clause-grew : goal.returns-clause-grew
returns-clause-grew g c = c.end-seat.ensures.grew

pub returns-clause-matches : goal.returns-clause-matches
returns-clause-matches g c = IfOk-weaker c.finish-ids.result _ _
    (λ ids is history root program have running. is history root (ap program_of c.new-memo.ensures.memo ∙ program) have
    (ran_before g.L.Law.right c.args.compiled.now g.C.Entry.began c.args.seat c.args.tally c.new-memo.result c.new-memo.ensures.memo c.args.runner (events_of root) running))
    c.finish-ids.ensures.matches

pub returns-clause-counts : goal.returns-clause-counts
returns-clause-counts g c = IfOk-weaker c.finish-ids.result _ _
    (λ ids moves given short running.
    runs_out g.L.Law.right c.args.compiled.now g.C.Entry.began c.args.seat c.end-seat.result.0 c.args.tally c.end-seat.result.1 c.requires.table.1 c.requires.grew c.end-seat.ensures.table c.end-seat.ensures.grew
    c.new-memo.result c.finish-ids.new.memo c.new-memo.ensures.memo c.end-seat.ensures.memo c.args.runner given moves short running)
    c.finish-ids.ensures.ok
