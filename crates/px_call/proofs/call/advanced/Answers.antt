use Rattle.std.proofs.Common.{◌∙◌, ap}
use Rattle.px_rule.specs.declared.view.Stay.{Stay}
use Rattle.px_rule.specs.Table.{is_inside}
use Rattle.px_call.proofs.Readings.{program_grew}
use Rattle.px_call.proofs.Running.{sound_of, ran_before, runs_on}
use Rattle.px_reader.specs.Happenings.{event_of}
use Rattle.px_call.proofs.call.advanced.Goals as goal

pub new-memo-requires-clause-table : goal.new-memo-requires-clause-table
new-memo-requires-clause-table g c = c.requires.table.0

pub new-memo-requires-clause-began : goal.new-memo-requires-clause-began
new-memo-requires-clause-began g c = c.requires.table.1

pub new-memo-requires-clause-grew : goal.new-memo-requires-clause-grew
new-memo-requires-clause-grew g c = c.requires.grew

pub new-memo-requires-clause-inside : goal.new-memo-requires-clause-inside
new-memo-requires-clause-inside g c = ap (λ (s : Stay). is_inside s.place) c.requires.grew.stay ∙ c.requires.inside

pub new-memo-requires-clause-program : goal.new-memo-requires-clause-program
new-memo-requires-clause-program g c = program_grew g.L.ProgramLaw.automata_of g.C.Entry.began.view c.args.seat.view c.requires.grew c.args.compiled.now c.requires.program

pub new-memo-requires-clause-sound : goal.new-memo-requires-clause-sound
new-memo-requires-clause-sound g c =
    sound_of g.L.Law.right c.args.compiled.now g.C.Entry.began c.args.seat c.args.tally c.requires.running.0 c.args.shared.now c.requires.table.0 c.requires.table.1 c.requires.grew c.requires.running.1.counts

pub event-went-requires : goal.event-went-requires
event-went-requires g c = record {
  begun = (
    c.requires.running.0,
    ran_before g.L.Law.right c.args.compiled.now g.C.Entry.began c.args.seat c.args.tally c.new-memo.result c.new-memo.ensures.memo c.args.runner c.requires.running.0 c.requires.running.1,
    c.requires.running.2,
  );
}

pub returns-in-Ok-clause-table : goal.returns-in-Ok-clause-table
returns-in-Ok-clause-table g c = c.end-seat.ensures.table

pub returns-in-Ok-clause-grew : goal.returns-in-Ok-clause-grew
returns-in-Ok-clause-grew g c = c.end-seat.ensures.grew

pub returns-in-Ok-clause-ok : goal.returns-in-Ok-clause-ok
returns-in-Ok-clause-ok g c given =
    runs_on g.L.Law.right c.args.compiled.now g.C.Entry.began c.args.seat c.end-seat.result.0 c.args.tally c.end-seat.result.1 c.requires.table.1 c.requires.grew c.end-seat.ensures.table c.end-seat.ensures.grew
    c.new-memo.result c.event-went.new.memo c.new-memo.ensures.memo c.end-seat.ensures.memo c.args.runner c.event-went.new.self (event_of c.args.next) given
    (c.in-Ok.ensures.ok given)

pub returns-in-Err-clause-table : goal.returns-in-Err-clause-table
returns-in-Err-clause-table g c = c.end-seat.ensures.table

pub returns-in-Err-clause-grew : goal.returns-in-Err-clause-grew
returns-in-Err-clause-grew g c = c.end-seat.ensures.grew
