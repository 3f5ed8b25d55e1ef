-- The pieces that were read are the document.
use Rattle.std.proofs.Common.{List, [], ◌++◌, length, ◌≡◌, ap, subst, ◌∙◌, Ok, arith}
use Rattle.std.specs.Arc.{arc_value}
use Rattle.px_io.proofs.Counts.{rose_later}
use Rattle.px_io.proofs.Flowing.{takes_nothing}
use Rattle.px_reader.specs.declared.event.Event.{Event}
use Rattle.px_machine.specs.Machines.{HasRun}
use Rattle.xpush.proofs.Reading.{read_all}
use Rattle.xpush.proofs.document.ids_in.Goals as goal

pub take_all-requires : goal.take_all-requires
take_all-requires g c = let run = c.loop.invariant.run in record { begun = ((arc_value c.args.program), run.0, run.2) }

pub finish-requires : goal.finish-requires
finish-requires g c =
    let run = c.loop.invariant.run in
    let end = c.in-Ok-true.ensures.end (ap Ok c.in-Ok-true.field-0-test) in
    let r = read_all _ _ _ _ _ _ _ run.1 end in record { run = ((arc_value c.args.program), r.bytes, run.0, r.read, run.2) }

pub returns-in-Ok-true-clause-ids : goal.returns-in-Ok-true-clause-ids
returns-in-Ok-true-clause-ids g c =
    let run = c.loop.invariant.run in
    let end = c.in-Ok-true.ensures.end (ap Ok c.in-Ok-true.field-0-test) in
    c.finish.ensures.ids _ _ _ _ _ (read_all _ _ _ _ _ _ _ run.1 end) end.spent run.2

pub returns-in-Ok-true-clause-fault : goal.returns-in-Ok-true-clause-fault
returns-in-Ok-true-clause-fault g c =
    let run = c.loop.invariant.run in
    let end = c.in-Ok-true.ensures.end (ap Ok c.in-Ok-true.field-0-test) in
    c.finish.ensures.fault _ _ _ _ (read_all _ _ _ _ _ _ _ run.1 end) end.spent

pub returns-in-Err-clause-fault : goal.returns-in-Err-clause-fault
returns-in-Err-clause-fault g c = λ fault e. c.in-Err.ensures.fault _ _ _ c.loop.invariant.run.1 fault (cc)

pub loop-preserved : goal.loop-preserved
loop-preserved g c =
    let run = c.loop.invariant.run in
    let on = c.in-Ok-false.ensures.more _ _ run.0 run.1 (ap Ok c.in-Ok-false.field-0-test) in
    let P : List Event → Type 0 = λ events. HasRun c.take_all.new.machine (arc_value c.args.program) (run.0 ++ events) in
    record {
      run = (_, on.0, subst P c.as_slice.ensures.value (c.in_ok-take_all-in-Ok-false.ensures.ok (arc_value c.args.program) run.0 run.2));
      never_falls = omega (arith, c.loop.invariant.never_falls, c.in-Ok-false.ensures.never_falls);
      room = omega (arith, c.loop.invariant.room);
    }

pub loop-init : goal.loop-init
loop-init g c =
    let count : length c.as_mut_slice-buffer.result.now ≡ 65_536 = ap length c.as_mut_slice-buffer.ensures.value ∙ c.in_ok-storage.ensures in
    record {
      run = ([], record { bytes = []; taken = takes_nothing (g.S.Source.left c.args.source.now); read = c.in_ok-reader.ensures; many = omega arith }, c.in_ok-machine.ensures.new);
      never_falls = omega arith;
      room = omega (arith, count);
    }

pub returns-in-Err-clause-failed : goal.returns-in-Err-clause-failed
returns-in-Err-clause-failed g c = λ e. rose_later _ _ _ c.loop.invariant.never_falls (c.in-Err.ensures.failed (cc))

pub returns-in-Err-clause-not_at_fault : goal.returns-in-Err-clause-not_at_fault
returns-in-Err-clause-not_at_fault g c = λ e. let run = c.loop.invariant.run in c.in-Err.ensures.not_at_fault _ _ run.0 run.1 (cc)
